-- The common table of worked examples.
use Rattle.std.specs.Prelude.{◌≡◌, ℕ, List, [], ◌∷◌, ◌++◌, map, take, pos, neg_ℤ, codes}
use Rattle.std.specs.List.{flat_map, ContainsAt}
use Rattle.dayfile.specs.Records.{Records}
use Rattle.dayfile.specs.declared.record.Class.TheVariants.{Generation, Load}
use Rattle.sharing.specs.declared.choice.Rule.TheVariants.{LargestRemainder, Running}
use Rattle.codes.specs.declared.code.Code.{Code}
use Rattle.codes.specs.declared.code.Code.TheVariants.{A3, A4, B3, B4, F3, F4}
use Rattle.worked_days.specs.Examples.{Answer, Asked, Example, correcting, defined, expected, numbers, printing, refused, settling, sharing}

abbrev pub asked : Code → ℕ → Asked
asked code party = record { code = code; party = party }

-- 2019-03-05, two accounts, one node: in hour 7 account 1 generates what account 2 takes. Account 1 has reserve of unit 12
-- and kind 3, 500 kWh at 2,000 the day before and 400 kWh at the price given in real time, and the unit failed.
abbrev pub failed_day : ℕ → Records
failed_day price = record {
  heading = record { year = 2019; month = 3; day = 5; hours = 24; accounts = 2; nodes = 1; interconnections = 0; real = tt };
  prices = record { node = 1; hour = 7; day_ahead = pos 50000; real_time = pos 60000 } ∷ [];
  positions =
      record { account = 1; node = 1; hour = 7; class = Generation; day_ahead = 1000; real_time = 1000 }
      ∷ record { account = 2; node = 1; hour = 7; class = Load; day_ahead = 1000; real_time = 1000 } ∷ [];
  interconnections = [];
  reserves = record { account = 1; unit = 12; kind = 3; hour = 7; day_ahead_price = 2000; day_ahead = 500; real_time_price = price; real_time = 400 } ∷ [];
  failures = record { unit = 12; kind = 3 } ∷ [];
  fines = [];
}

abbrev pub without_positions : Records → Records
without_positions r = record { heading = r.heading; prices = r.prices; positions = []; interconnections = r.interconnections; reserves = r.reserves; failures = r.failures; fines = r.fines }

-- the text of lines
abbrev pub text : List (List ℕ) → Answer
text lines = numbers (map pos (flat_map (λ line. line ++ (10 ∷ [])) lines))

-- 2019-03-05, 24 hours, 3 accounts, 1 node, 1 interconnection. In hour 7 the prices are 50,000 and 60,000; account 1
-- generates 3,000 day ahead and 3,100 in real time, accounts 2 and 3 take 2,000 and 1,000; external system 1 is sent
-- 100 in real time, with an imbalance price of 55,000.
abbrev pub imbalance_file : List ℕ
imbalance_file = flat_map (λ part. part) (
    (codes "DY" ++ (7 ∷ 227 ∷ 3 ∷ 5 ∷ 24 ∷ 3 ∷ 1 ∷ 1 ∷ []))
    ∷ (codes "PN" ++ (1 ∷ 7 ∷ 0 ∷ 0 ∷ 195 ∷ 80 ∷ 0 ∷ 0 ∷ 234 ∷ 96 ∷ []))
    ∷ (codes "EN" ++ (1 ∷ 1 ∷ 7 ∷ 1 ∷ 0 ∷ 0 ∷ 11 ∷ 184 ∷ 0 ∷ 0 ∷ 12 ∷ 28 ∷ []))
    ∷ (codes "EN" ++ (2 ∷ 1 ∷ 7 ∷ 2 ∷ 0 ∷ 0 ∷ 7 ∷ 208 ∷ 0 ∷ 0 ∷ 7 ∷ 208 ∷ []))
    ∷ (codes "EN" ++ (3 ∷ 1 ∷ 7 ∷ 2 ∷ 0 ∷ 0 ∷ 3 ∷ 232 ∷ 0 ∷ 0 ∷ 3 ∷ 232 ∷ []))
    ∷ (codes "IX" ++ (1 ∷ 1 ∷ 1 ∷ 7 ∷ 0 ∷ 0 ∷ 0 ∷ 0 ∷ 0 ∷ 0 ∷ 0 ∷ 0 ∷ 0 ∷ 0 ∷ 0 ∷ 100 ∷ 0 ∷ 0 ∷ 0 ∷ 0 ∷ 0 ∷ 0 ∷ 214 ∷ 216 ∷ []))
    ∷ (codes "ZZ" ++ (0 ∷ 6 ∷ [])) ∷ [])

abbrev pub worked_examples : List Example
worked_examples =
    -- a third and two thirds: the odd mil goes to the second place by the running rule, to the larger remainder by the other
    sharing Running 500000 (1000 ∷ 2000 ∷ []) (numbers (pos 166666 ∷ pos 333334 ∷ []))
    ∷ sharing LargestRemainder 500000 (1000 ∷ 2000 ∷ []) (numbers (pos 166667 ∷ pos 333333 ∷ []))
    -- equal weights: the earlier place comes first on a tie
    ∷ sharing Running 2 (1 ∷ 1 ∷ 1 ∷ []) (numbers (pos 0 ∷ pos 1 ∷ pos 1 ∷ []))
    ∷ sharing LargestRemainder 2 (1 ∷ 1 ∷ 1 ∷ []) (numbers (pos 1 ∷ pos 1 ∷ pos 0 ∷ []))
    -- nothing to share over no weight
    ∷ sharing Running 0 (0 ∷ 0 ∷ []) (numbers (pos 0 ∷ pos 0 ∷ []))
    ∷ sharing LargestRemainder 0 (0 ∷ 0 ∷ []) (numbers (pos 0 ∷ pos 0 ∷ []))
    -- an amount that nobody has a weight for: refusal 16, layer 5
    ∷ sharing Running 1 (0 ∷ 0 ∷ []) (refused 16 5)
    ∷ sharing LargestRemainder 1 (0 ∷ 0 ∷ []) (refused 16 5)
    -- all of it to the one place with a weight
    ∷ sharing Running 7 (0 ∷ 5 ∷ []) (numbers (pos 0 ∷ pos 7 ∷ []))
    ∷ sharing LargestRemainder 7 (0 ∷ 5 ∷ []) (numbers (pos 0 ∷ pos 7 ∷ []))
    -- reserve that failed: the penalty is what it came to in both markets
    ∷ settling Running (failed_day 3000) (asked A3 1 ∷ asked B3 1 ∷ asked A4 2 ∷ asked B4 2 ∷ asked F3 1 ∷ asked F4 51 ∷ [])
    (numbers (pos 1000000 ∷ neg_ℤ (pos 300000) ∷ neg_ℤ (pos 1000000) ∷ pos 300000 ∷ neg_ℤ (pos 700000) ∷ pos 700000 ∷ []))
    -- the same where that is below 0: there is no penalty
    ∷ settling Running (failed_day 30000) (asked A3 1 ∷ asked B3 1 ∷ asked A4 2 ∷ asked B4 2 ∷ asked F3 1 ∷ asked F4 51 ∷ [])
    (numbers (pos 1000000 ∷ neg_ℤ (pos 3000000) ∷ neg_ℤ (pos 1000000) ∷ pos 3000000 ∷ pos 0 ∷ pos 0 ∷ []))
    -- the same without the purchases of account 2: nobody bears the cost of the reserve, refusal 11, layer 3
    ∷ settling Running (without_positions (failed_day 3000)) (asked A3 1 ∷ []) (refused 11 3)
    -- an imbalance that two buyers share
    ∷ printing imbalance_file (text (codes "DAY 2019-03-05 24 0"
    ∷ codes "A1 1 P 150000000" ∷ codes "A1 2 C 100000000" ∷ codes "A1 3 C 50000000" ∷ codes "B1 1 P 6000000"
    ∷ codes "F1 2 C 333333" ∷ codes "F1 3 C 166667" ∷ codes "F2 41 C 5500000" ∷ codes "END 7" ∷ []))
    -- the same after the reading of account 3 was corrected to 1,300: the second issue has what changed
    ∷ correcting imbalance_file (record { account = 3; node = 1; hour = 7; class = 2; real_time = 1300 }) (text (codes "DAY 2019-03-05 24 1"
    ∷ codes "B1 3 C 18000000" ∷ codes "B2 2 P 10909090" ∷ codes "B2 3 P 7090910" ∷ codes "F1 2 P 30303" ∷ codes "F1 3 C 30303" ∷ codes "END 5" ∷ []))
    -- the same file without its last byte: refusal 3, layer 1, at the end record
    ∷ printing (take 93 imbalance_file) (text (codes "REFUSED 3 1 90 0 0 0" ∷ []))
    ∷ []

-- each example of the table comes out as it says
abbrev pub ExamplesHold : Type 0
ExamplesHold = (x : Example) → ContainsAt worked_examples x → defined x ≡ expected x

-- What the words of a line ask for: the first word is a name, and each name has its own arguments.
use Rattle.std.specs.Prelude.{ℕ, List, [], ◌∷◌, Some, None, Option}
use Rattle.std.specs.Borrow.{Bor}
use Rattle.std.specs.Option.{option_and_then, option_map}
use Rattle.correcting.specs.declared.reading.Reading.{Reading}
use Rattle.sharing.specs.Choice.{rule_of}
use Rattle.sharing.specs.declared.choice.Rule.{Rule}
use Rattle.script.specs.Digits.{decimal_number}
use Rattle.script.specs.Names.{name_of}
use Rattle.script.specs.declared.command.Call.{Call}
use Rattle.script.specs.declared.command.Call.TheVariants as call
use Rattle.script.specs.declared.command.Command.{Command}
use Rattle.script.specs.declared.command.Command.TheVariants as command
use Rattle.script.specs.declared.name.Name.{Name}
use Rattle.script.specs.declared.name.Name.TheVariants.{Ledger, Buffer, Open, Load, LoadBytes, Enter, Close, Correct, Settle, Sheet, Issue, Statement, Reopen}

abbrev pub Word : Type 0
Word = Bor (List ℕ)

-- the ? of the logic: the second step, if the first gave a value
infixl 10 ◌>>=◌
abbrev pub ◌>>=◌ : {A B : Type 0} → Option A → (A → Option B) → Option B
o >>= f = option_and_then f o

abbrev pub byte : Word → Option ℕ
byte word = decimal_number 255 word.now

abbrev pub room : Word → Option ℕ
room word = decimal_number 1000000 word.now

abbrev pub rule : Word → Option Rule
rule word = byte word >>= rule_of

abbrev pub reading : Word → Word → Word → Word → Word → Option Reading
reading account node hour class kwh = do
  a ← byte account
  n ← byte node
  h ← byte hour
  c ← byte class
  k ← decimal_number 4294967295 kwh.now
  Some (record { account = a; node = n; hour = h; class = c; real_time = k })

-- a call on a day
abbrev pub call_of : Name → List Word → Option Call
call_of Enter (bytes ∷ []) = Some (call.Enter bytes)
call_of Close (bytes ∷ []) = Some (call.Close bytes)
call_of Correct (account ∷ node ∷ hour ∷ class ∷ kwh ∷ []) = option_map call.Correct (reading account node hour class kwh)
call_of Settle (number ∷ []) = option_map call.Settle (rule number)
call_of Sheet (hour ∷ number ∷ []) = do
  h ← byte hour
  r ← rule number
  Some (call.Sheet h r)
call_of Issue [] = Some call.Issue
call_of Statement (issue ∷ []) = option_map call.Statement (byte issue)
call_of Reopen [] = Some call.Reopen
call_of name arguments = None

-- and the other lines
abbrev pub named : Name → List Word → Option Command
named Ledger (entries ∷ []) = option_map command.Ledger (room entries)
named Buffer (length ∷ []) = option_map command.Buffer (room length)
named Open (bytes ∷ []) = Some (command.Open bytes)
named Load (path ∷ []) = Some (command.Load path)
named LoadBytes (bytes ∷ []) = Some (command.LoadBytes bytes)
named name arguments = option_map command.Call (call_of name arguments)

abbrev pub command_of : List Word → Option Command
command_of [] = None
command_of (first ∷ arguments) = name_of first.now >>= (λ name. named name arguments)

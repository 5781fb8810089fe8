-- A heading is its fields.
use Rattle.std.proofs.Common.{◌≡◌, ℕ, Bool, true, false, T, eqb, Some, Option, refl}
use Rattle.std.proofs.lemmas.Bool.{and_parts, eqb-true}
use Rattle.dayfile.specs.declared.heading.Heading.{Heading}
use Rattle.dayfile.specs.Headings.{heading_of, provided, same_fields}

-- a test that holds provides the value, whatever the proof that it holds
pub provides : {X : Type 0} → (test : Bool) (make : T test → X) (holds : T test) → provided test make ≡ Some (make holds)
provides true make holds = refl
provides false make holds = absurd holds

pub made : (a : Heading) → heading_of a.year a.month a.day a.hours a.accounts a.nodes a.interconnections ≡ Some a
made a = provides _ _ a.real

-- `heading_of` as a function that does not compute, so that equal fields give equal headings by congruence
shut : ℕ → ℕ → ℕ → ℕ → ℕ → ℕ → ℕ → Option Heading
shut = heading_of

shut_made : (a : Heading) → shut a.year a.month a.day a.hours a.accounts a.nodes a.interconnections ≡ Some a
unfolding shut
shut_made a = made a

pub same : (a b : Heading) → same_fields a b ≡ true → a ≡ b
same a b s =
    let p = and_parts (eqb a.year b.year) _ s in
    let q = and_parts (eqb a.month b.month) _ p.1 in
    let r = and_parts (eqb a.day b.day) _ q.1 in
    let t = and_parts (eqb a.hours b.hours) _ r.1 in
    let u = and_parts (eqb a.accounts b.accounts) _ t.1 in
    let v = and_parts (eqb a.nodes b.nodes) _ u.1 in
    let year = eqb-true a.year b.year p.0 in
    let month = eqb-true a.month b.month q.0 in
    let day = eqb-true a.day b.day r.0 in
    let hours = eqb-true a.hours b.hours t.0 in
    let accounts = eqb-true a.accounts b.accounts u.0 in
    let nodes = eqb-true a.nodes b.nodes v.0 in
    let interconnections = eqb-true a.interconnections b.interconnections v.1 in
    let one = shut_made a in
    let other = shut_made b in
    cc

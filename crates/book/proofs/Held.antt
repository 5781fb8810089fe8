-- Records that agree in every part.
use Rattle.std.proofs.Common.{◌≡◌, List}
use Rattle.dayfile.specs.Records.{Records}
use Rattle.dayfile.specs.declared.heading.Heading.{Heading}
use Rattle.dayfile.specs.declared.record.Failure.{Failure}
use Rattle.dayfile.specs.declared.record.Fine.{Fine}
use Rattle.dayfile.specs.declared.record.Interconnection.{Interconnection}
use Rattle.dayfile.specs.declared.record.Position.{Position}
use Rattle.dayfile.specs.declared.record.Price.{Price}
use Rattle.dayfile.specs.declared.record.Reserve.{Reserve}

gathered : Heading → List Price → List Position → List Interconnection → List Reserve → List Failure → List Fine → Records
gathered h ps qs is rs fs gs = record { heading = h; prices = ps; positions = qs; interconnections = is; reserves = rs; failures = fs; fines = gs }

-- `gathered` is shut here, so that `cc` takes it for a function
alike : {h h' : Heading} {ps ps' : List Price} {qs qs' : List Position} {is is' : List Interconnection} {rs rs' : List Reserve} {fs fs' : List Failure} {gs gs' : List Fine}
    → h ≡ h' → ps ≡ ps' → qs ≡ qs' → is ≡ is' → rs ≡ rs' → fs ≡ fs' → gs ≡ gs'
    → gathered h ps qs is rs fs gs ≡ gathered h' ps' qs' is' rs' fs' gs'
alike a b c d e f g = cc

pub same_records : (x y : Records) → x.heading ≡ y.heading → x.prices ≡ y.prices → x.positions ≡ y.positions
    → x.interconnections ≡ y.interconnections → x.reserves ≡ y.reserves → x.failures ≡ y.failures → x.fines ≡ y.fines → x ≡ y
unfolding gathered
same_records x y a b c d e f g = alike a b c d e f g

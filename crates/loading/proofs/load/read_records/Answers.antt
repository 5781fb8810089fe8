use Rattle.std.proofs.Common.{◌≡◌, suc, ◌≤◌, true, false, length, Ok, Err, sym, refl, ap, ◌∙◌, arith, rules}
use Rattle.book.specs.Books.{held}
use Rattle.loading.specs.Loading.{answered, step, turned}
use Rattle.loading.proofs.Steps.{goes_further, stops}
use Rattle.loading.proofs.load.read_records.Goals as goal

pub loop-init : goal.loop-init
loop-init c = (refl, (suc (length c.args.reader.now.file.now), omega arith, refl))

pub loop-preserved : goal.loop-preserved
loop-preserved c =
    let e = c.take_next.ensures in
    let i = c.loop.invariant in
    let file = c.args.reader.now.file.now in
    let new = c.take_next.new in
    let more : c.take_next.result ≡ Ok true = search rules in
    let same = e.file ∙ i.0 in
    let inside : new.reader.offset ≤ length file = omega (arith, ap length same, new.reader.inside) in (
      same,
      goes_further i.1.0 file c.loop.reader.offset new.reader.offset (held c.loop.book) (held new.book) _
          i.1.1 (e.moves more) inside
          (ap (λ r. turned r new.reader.offset (held new.book)) (sym more) ∙ e.value ∙ ap (λ f. step f c.loop.reader.offset (held c.loop.book)) i.0) i.1.2,
    )

pub returns : goal.returns
returns c =
    let e = c.take_next.ensures in
    let i = c.loop.invariant in
    let new = c.take_next.new in
    let over : c.take_next.result ≡ Ok false = search rules in
    stops i.1.0 c.args.reader.now.file.now c.loop.reader.offset (held c.loop.book) _ _ i.1.1
    (ap (λ r. turned r new.reader.offset (held new.book)) (sym over) ∙ e.value ∙ ap (λ f. step f c.loop.reader.offset (held c.loop.book)) i.0) i.1.2

pub returns-in_err-take_next : goal.returns-in_err-take_next
returns-in_err-take_next c =
    let e = c.take_next.ensures in
    let i = c.loop.invariant in
    let new = c.take_next.new in
    let fault = c.in_err-take_next.field-0.0 in
    let same : c.from_residual.result ≡ Err fault = search rules in
    let over : c.take_next.result ≡ Err fault = c.in_err-take_next.was in
    ap (λ r. answered r (held new.book)) same
    ∙ stops i.1.0 c.args.reader.now.file.now c.loop.reader.offset (held c.loop.book) _ _ i.1.1
    (ap (λ r. turned r new.reader.offset (held new.book)) (sym over) ∙ e.value ∙ ap (λ f. step f c.loop.reader.offset (held c.loop.book)) i.0) i.1.2

use Rattle.std.proofs.Common.{◌≡◌, ◌+◌, length, false, is_ok, Ok, Err, sym, ap, ◌∙◌, rules}
use Rattle.book.specs.Books.{admitted, answer, held}
use Rattle.loading.specs.Loading.{at_offset, goes_on, turned}
use Rattle.loading.proofs.Steps.{enters_err, enters_ok}
use Rattle.loading.proofs.load.take.Goals as goal

pub returns : goal.returns
returns c =
    let part = c.args.part.now in
    let b = held c.args.book.now in
    let no_end : is_ok c.decode_end.result ≡ false = search rules in
    let taken : Ok tt ≡ answer (admitted b part) = search rules in
    ap (goes_on (c.args.offset + length part)) c.enter.ensures.after
    ∙ enters_ok c.args.is_last c.args.offset b part (sym (ap is_ok c.decode_end.ensures) ∙ no_end) taken

pub returns-in_err-map_err : goal.returns-in_err-map_err
returns-in_err-map_err c =
    let part = c.args.part.now in
    let b = held c.args.book.now in
    let fault = c.in_err-map_err.field-0.0 in
    let same : c.from_residual-in_err-map_err.result ≡ Err fault = search rules in
    let no_end : is_ok c.decode_end.result ≡ false = search rules in
    let refused : at_offset c.args.offset c.enter.result ≡ Err fault = search rules in
    ap (λ r. turned r (c.args.offset + length part) (held c.enter.new.self)) same
    ∙ enters_err c.args.is_last c.args.offset b part fault (sym (ap is_ok c.decode_end.ensures) ∙ no_end)
    (ap (at_offset c.args.offset) (sym c.enter.ensures.value) ∙ refused)

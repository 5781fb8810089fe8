use Rattle.std.proofs.Common.{ap, ◌∙◌}
use Rattle.cutting.specs.Cuts.{cut_at, past}
use Rattle.book.specs.Books.{answer, held, opened}
use Rattle.loading.specs.Loading.{opening}
use Rattle.loading.proofs.Steps.{load_err, load_ok}
use Rattle.loading.proofs.load.load.Goals as goal

pub returns-in-Ok : goal.returns-in-Ok
returns-in-Ok c =
    let e = c.in-Ok.ensures in
    let n = c.new-reader.ensures.file in
    let b = held c.args.book.now in
    let p = load_ok c.args.file.now _ _ b _ _ _ (e.file ∙ n) (e.offset ∙ ap (λ f. past 0 (cut_at f 0)) n)
    (e.value ∙ ap (λ f. answer (opening f)) n) (e.after ∙ ap (λ f. opened b (opening f)) n)
    c.read_or_clear.ensures.value c.read_or_clear.ensures.after in
    record { value = p.0; after = p.1 }

pub returns-in-Err : goal.returns-in-Err
returns-in-Err c =
    let e = c.in-Err.ensures in
    let n = c.new-reader.ensures.file in
    let p = load_err c.args.file.now (held c.args.book.now) c.in-Err.fault (e.value ∙ ap (λ f. answer (opening f)) n) in
    record { value = p.0; after = c.clear.ensures ∙ p.1 }

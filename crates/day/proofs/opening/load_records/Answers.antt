use Rattle.std.proofs.Common.{Ok, ap, ◌∙◌}
use Rattle.std.proofs.lemmas.Result.{err_from_is_err_and}
use Rattle.book.specs.Books.{held}
use Rattle.loading.specs.Loading.{file_records}
use Rattle.day.specs.Calls.{first_numbers}
use Rattle.day.specs.States.{day_with}
use Rattle.day.proofs.Beginning.{loaded_day, refused_file}
use Rattle.day.proofs.opening.load_records.Goals as goal

pub returns-clause-value : goal.returns-clause-value
returns-clause-value c =
    ap Ok c.new.ensures ∙ ap (λ n. Ok (day_with n)) (c.first_numbers.ensures ∙ ap first_numbers c.load.ensures.after)
    ∙ loaded_day (held c.args.book.now) c.args.file.now c.in_ok-load.ensures.value

pub returns-in_err-load-clause-value : goal.returns-in_err-load-clause-value
returns-in_err-load-clause-value c =
    let p = err_from_is_err_and c.from_residual.result c.from_residual.ensures.1 in
    rw (p.1, p.2) (refused_file (file_records c.args.file.now) _ c.in_err-load.ensures.value)

-- The names that the lines of a script begin with.
use Rattle.std.specs.Prelude.{ℕ, cond, List, Some, None, codes, Option}
use Rattle.std.specs.Str.{bytes_eq}
use Rattle.script.specs.declared.name.Name.{Name}
use Rattle.script.specs.declared.name.Name.TheVariants.{Ledger, Buffer, Open, Load, LoadBytes, Enter, Close, Correct, Settle, Sheet, Issue, Statement, Reopen}

abbrev pub name_of : List ℕ → Option Name
name_of word =
    cond (bytes_eq word (codes "ledger")) (Some Ledger) (
    cond (bytes_eq word (codes "buffer")) (Some Buffer) (
    cond (bytes_eq word (codes "open")) (Some Open) (
    cond (bytes_eq word (codes "load")) (Some Load) (
    cond (bytes_eq word (codes "load-bytes")) (Some LoadBytes) (
    cond (bytes_eq word (codes "enter")) (Some Enter) (
    cond (bytes_eq word (codes "close")) (Some Close) (
    cond (bytes_eq word (codes "correct")) (Some Correct) (
    cond (bytes_eq word (codes "settle")) (Some Settle) (
    cond (bytes_eq word (codes "sheet")) (Some Sheet) (
    cond (bytes_eq word (codes "issue")) (Some Issue) (
    cond (bytes_eq word (codes "statement")) (Some Statement) (
    cond (bytes_eq word (codes "reopen")) (Some Reopen) (
    None)))))))))))))

use Rattle.std.proofs.Common.{◌≡◌, ℕ, List, length, ap, codes, sym, arith, rules}
use Rattle.std.proofs.lemmas.Slice.Eq.{HasBytesAt, text_from_reads}
use Rattle.script.specs.Names.{name_of}
use Rattle.script.proofs.name.name_of.Goals as goal

spelt : (name word : List ℕ) → length word ≡ length name → HasBytesAt word 0 name → name_of name ≡ name_of word
spelt name word n h = ap name_of (sym (text_from_reads word name n h))

pub returns-in-ledger : goal.returns-in-ledger
returns-in-ledger c = spelt (codes "ledger") c.args.word.now (omega arith) (search rules)

pub returns-in-buffer : goal.returns-in-buffer
returns-in-buffer c = spelt (codes "buffer") c.args.word.now (omega arith) (search rules)

pub returns-in-settle : goal.returns-in-settle
returns-in-settle c = spelt (codes "settle") c.args.word.now (omega arith) (search rules)

pub returns-in-reopen : goal.returns-in-reopen
returns-in-reopen c = spelt (codes "reopen") c.args.word.now (omega arith) (search rules)

pub returns-in-correct : goal.returns-in-correct
returns-in-correct c = spelt (codes "correct") c.args.word.now (omega arith) (search rules)

pub returns-in-statement : goal.returns-in-statement
returns-in-statement c = spelt (codes "statement") c.args.word.now (omega arith) (search rules)

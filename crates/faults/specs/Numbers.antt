-- The number and the layer of every reason of refusal.
-- Assumes nothing.
use Rattle.std.specs.Prelude.{ℕ}
use Rattle.faults.specs.declared.refusal.Layer.{Layer}
use Rattle.faults.specs.declared.refusal.Layer.TheVariants.{File, Book, Settlement, Issue, Rule}
use Rattle.faults.specs.declared.refusal.Refusal.{Refusal}
use Rattle.faults.specs.declared.refusal.Refusal.TheVariants.{UnsoundMemory, UnknownMark, WrongLength, UnexpectedMark, OutOfRange, AboveHeading, KeyTaken, TableFull, WrongCount, NoPrice, NoPurchases, NoPosition, LedgerFull, NoIssueLeft, BufferTooShort, NotShareable}

abbrev pub refusal_number : Refusal → ℕ
refusal_number UnsoundMemory = 1
refusal_number UnknownMark = 2
refusal_number WrongLength = 3
refusal_number UnexpectedMark = 4
refusal_number OutOfRange = 5
refusal_number AboveHeading = 6
refusal_number KeyTaken = 7
refusal_number TableFull = 8
refusal_number WrongCount = 9
refusal_number NoPrice = 10
refusal_number NoPurchases = 11
refusal_number NoPosition = 12
refusal_number LedgerFull = 13
refusal_number NoIssueLeft = 14
refusal_number BufferTooShort = 15
refusal_number NotShareable = 16

abbrev pub refusal_layer : Refusal → Layer
refusal_layer UnsoundMemory = Book
refusal_layer UnknownMark = File
refusal_layer WrongLength = File
refusal_layer UnexpectedMark = Book
refusal_layer OutOfRange = Book
refusal_layer AboveHeading = Book
refusal_layer KeyTaken = Book
refusal_layer TableFull = Book
refusal_layer WrongCount = Book
refusal_layer NoPrice = Book
refusal_layer NoPurchases = Settlement
refusal_layer NoPosition = Book
refusal_layer LedgerFull = Issue
refusal_layer NoIssueLeft = Issue
refusal_layer BufferTooShort = Issue
refusal_layer NotShareable = Rule

abbrev pub layer_number : Layer → ℕ
layer_number File = 1
layer_number Book = 2
layer_number Settlement = 3
layer_number Issue = 4
layer_number Rule = 5

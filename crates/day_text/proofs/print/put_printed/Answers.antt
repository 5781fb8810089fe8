use Rattle.book.specs.Books.{held}
use Rattle.loading.specs.Loading.{file_records}
use Rattle.day_text.proofs.Printed.{accepted_load, err_answer}
use Rattle.day_text.proofs.print.put_printed.Goals as goal

pub put_settled-requires : goal.put_settled-requires
put_settled-requires c =
    let loaded = accepted_load c.args.file.now (held c.args.book.now) (held c.load.new.book) c.in-Ok.ensures.value c.in-Ok.ensures.after in
    record { sound = loaded.sound; ledger = c.requires.ledger; buffer = c.requires.buffer }

pub returns-in-Ok : goal.returns-in-Ok
returns-in-Ok c =
    let loaded = accepted_load c.args.file.now (held c.args.book.now) (held c.load.new.book) c.in-Ok.ensures.value c.in-Ok.ensures.after in
    record {
      answer = rw loaded.records c.put_settled.ensures.answer;
      after = rw loaded.records c.put_settled.ensures.after;
      within = c.put_settled.ensures.within;
    }

pub returns-in-Err : goal.returns-in-Err
returns-in-Err c =
    let refused = err_answer (file_records c.args.file.now) c.in-Err.fault c.in-Err.ensures.value in
    record {
      answer = rw refused c.put_fault.ensures.answer;
      after = rw refused c.put_fault.ensures.after;
      within = c.put_fault.ensures.within;
    }

-- `c_reading::bai2_read` meets its contract: the reader's verdict, in figures. Assumes nothing.
use Rattle.c_reading.proofs.ReadFigures.{total-fits, accepted-figures, refused-figures}
use Rattle.c_reading.proofs.bai2_read.Goals as goal

pub total_of-requires : goal.total_of-requires
total_of-requires c = total-fits c.args.file.now c.in-Ok.s c.in-Ok.ensures

pub returns-in-Ok : goal.returns-in-Ok
returns-in-Ok c = accepted-figures c.args.file.now c.in-Ok.s c.in-Ok.ensures c.total_of.result c.total_of.ensures

pub returns-in-Err : goal.returns-in-Err
returns-in-Err c = rw c.number.ensures (refused-figures c.args.file.now c.in-Err.why c.in-Err.ensures)

-- What read_number answers; at its fault nothing is promised.
use Rattle.judge.specs.Reading.Parts.{number_read}
use Rattle.judge.proofs.reading.read.Goals as goal

pub returns : goal.returns
returns c =
    number_read (λ i. (c.type_inv.file i).fits) c.read_number.result c.read_number.ensures c.unwrap_or-v.ensures

-- `line::Reader::take` meets its contract: one byte in, next state and event out.
-- Why: the step of the place that the state is treated as is the byte taken by that state.
use Rattle.std.proofs.Common.{◌∙◌}
use Rattle.line.proofs.Blocks.{taken_is, taken_sound, soundly, takes}
use Rattle.line.proofs.reading.Reader.take.Goals as goal

pub returns : goal.returns
returns c =
    let step = rw c.sound.ensures at c.step-moved.ensures in
    takes c.args.self c.args.byte (taken_is (soundly c.args.self) c.args.byte step ∙ taken_sound c.args.self c.args.byte)

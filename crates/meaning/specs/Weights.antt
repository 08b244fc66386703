-- 01, "Messages": the replies C2 and C3 say a weight, and no other message does.
use Rattle.std.specs.Prelude.{Option, Some, None}
use Rattle.meaning.specs.declared.meaning.What.{What}
use Rattle.meaning.specs.declared.meaning.What.TheVariants as says
use Rattle.meaning.specs.declared.meaning.SaidWeight.{SaidWeight}

-- the weight that is said, or that none is
abbrev pub weight_said : What → Option SaidWeight
weight_said (says.Weight said) = Some said
weight_said says.Nothing = None
weight_said (says.Serial serial) = None
weight_said (says.Number number) = None
weight_said (says.Status status) = None
weight_said (says.Inputs bits on) = None
weight_said (says.Outputs bits) = None
weight_said (says.Text number from to) = None
weight_said (says.Event event from to) = None
weight_said (says.Converter count) = None
weight_said (says.Error error) = None

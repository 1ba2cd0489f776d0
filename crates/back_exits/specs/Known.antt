-- What is known of a scope where exits are added.
use Rattle.std.specs.Prelude.{◌≡◌, length}
use Rattle.back_relation.specs.Activation.{FormScope}

-- the forms that made the exits around are known
abbrev pub FormsKnown : FormScope → Type 0
FormsKnown s = length s.exits.own ≡ s.flat.exits

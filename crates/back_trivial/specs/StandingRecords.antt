-- What code knows of the records of activations: at each stage of a run of lines, the records at the line of an activation are those that stand.
use Rattle.std.specs.Prelude.{◌≡◌, ℕ, List, [], ◌∷◌}
use Rattle.mid_code.specs.declared.program.MidProgram.{MidProgram}
use Rattle.mid_code.specs.State.{MidState}
use Rattle.mid_lines.specs.LineMeaning.{Activation, Caller, Stage, running, entering, ended}
use Rattle.mid_lines.specs.LineLaw.{line_run}
use Rattle.back_places.specs.Places.{StaticRecord}
use Rattle.back_places.specs.Relation.{statics}
use Rattle.back_trivial.specs.KnownRecords.{tree_records}

-- code knows the records of an activation at a line, of callers at the lines behind their calls, and of all that stand at a stage
abbrev pub ActivationIsKnown : ((number line : ℕ) → List StaticRecord) → Activation → (line : ℕ) → Type 0
ActivationIsKnown at a line = at a.procedure line ≡ statics a.standing

abbrev pub CallersAreKnown : ((number line : ℕ) → List StaticRecord) → List Caller → Type 0
CallersAreKnown at [] = Unit {0}
CallersAreKnown at (c ∷ callers) = ActivationIsKnown at c.activation c.line × CallersAreKnown at callers

abbrev pub StageIsKnown : ((number line : ℕ) → List StaticRecord) → Stage → Type 0
StageIsKnown at (running a line rs callers z) = ActivationIsKnown at a line × CallersAreKnown at callers
StageIsKnown at (entering number arguments callers z) = CallersAreKnown at callers
StageIsKnown at (ended e z) = Unit {0}

-- so it is with the records of the tree, at each stage of a run
abbrev pub LawOfKnownStages : Type 0
LawOfKnownStages =
    (program : MidProgram) (entry : ℕ) (arguments : List ℕ) (z : MidState) (steps : ℕ)
    → StageIsKnown (tree_records program) (line_run program entry arguments z steps)

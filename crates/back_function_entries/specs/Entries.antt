-- **The entry of any function** does what its application means, if its body does a level below, and lists are made and calls kept.
use Rattle.std.specs.Prelude.{◌≡◌, ℕ, suc, ◌≤◌, List}
use Rattle.lang_meaning.specs.State.{DynamicContext}
use Rattle.flat_language.specs.declared.program.FlatProcedure.{FlatProcedure}
use Rattle.flat_language.specs.FlatState.{FlatState}
use Rattle.mid_code.specs.State.{MidState}
use Rattle.back_lowering.specs.Program.{Extra}
use Rattle.back_relation.specs.Setting.{Setting}
use Rattle.back_relation.specs.Placed.{IsPlaced}
use Rattle.back_relation.specs.Worlds.{World, Standing}
use Rattle.back_relation.specs.Procedures.{BodyDoes, EntryDoes}
use Rattle.back_relation.specs.RoutineClaims.{ListDoes, MethodDoes}

-- the routines of lists and of methods' calls do what is claimed of them wherever they are called
abbrev pub ListDoesAnywhere : Setting → (k turns : ℕ) → Type 0
ListDoesAnywhere setting k turns =
    (rs valid : List Standing) (w : World) (around : DynamicContext) (z : FlatState) (y : MidState) → ListDoes setting k turns rs valid w around z y

abbrev pub MethodDoesAnywhere : Setting → (k turns : ℕ) → Type 0
MethodDoesAnywhere setting k turns =
    (rs valid : List Standing) (w : World) (around : DynamicContext) (z : FlatState) (y : MidState) → MethodDoes setting k turns rs valid w around z y

-- with no more turns than a level has, of which one is the entry's
abbrev pub LawOfEntries : Type 0
LawOfEntries =
    (setting : Setting) (k turns number : ℕ) (extra : Extra) (q : FlatProcedure) → IsPlaced setting → turns ≤ setting.turns_each
    → ((n : ℕ) → turns ≡ suc n → ListDoesAnywhere setting k n × MethodDoesAnywhere setting k n)
    → ((j : ℕ) → k ≡ suc j → BodyDoes setting j number extra q) → EntryDoes setting k turns number extra q

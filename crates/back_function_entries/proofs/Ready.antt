-- **What an entry is given where it is entered with a level**: all that it rests on, and that its body has its words once those of the application were
-- charged; and where there is no level, the words that it lays itself.
use Rattle.std.proofs.Common.{◌≡◌, ℕ, ◌+◌, ◌≤◌, true, false, List, [], ◌∷◌, length, Option, Some}
use Rattle.std.specs.Prelude.{is_some}
use Rattle.lang_meaning.specs.Counts.{application_words}
use Rattle.lang_meaning.specs.Objects.{Called}
use Rattle.lang_meaning.specs.Signals.{takes}
use Rattle.lang_meaning.specs.State.{DynamicContext, has_room}
use Rattle.lang_meaning.specs.Values.{Value}
use Rattle.flat_language.specs.declared.program.FlatProcedure.{FlatProcedure}
use Rattle.flat_language.specs.FlatNodes.{nodes}
use Rattle.flat_language.specs.FlatState.{Captured, FlatState, charged}
use Rattle.mid_code.specs.State.{MidState}
use Rattle.back_relation.specs.Setting.{Setting}
use Rattle.back_relation.specs.Activation.{SelfHeld, MethodHeld}
use Rattle.back_relation.specs.Around.{CallBegins, SiteStored}
use Rattle.back_relation.specs.Procedures.{as_registers, body_words, ArgumentsGiven}
use Rattle.back_relation.specs.Room.{entry_words}
use Rattle.back_relation.specs.Things.{Things}
use Rattle.back_relation.specs.Worlds.{World, Standing}
use Rattle.back_calling.proofs.Charging.{asked}

module _ (setting : Setting) (rs valid : List Standing) where
  pub record EntryReady (q : FlatProcedure) (cs : List Captured) (called_as : Option Called) (vs : List Value) (self chain address : ℕ) (w : World) (around : DynamicContext) (z : FlatState) (y : MidState) : Type 0 where
    pub things : Things setting w z y
    pub begun :
        has_room setting.limit (z.state.heap + z.state.stack + 0 + (application_words (nodes q.body) + length vs)) ≡ true
        → CallBegins setting rs valid (entry_words + body_words q) w around (charged (length vs) (asked (application_words (nodes q.body) + length vs) z)) y
    pub site : SiteStored setting around y
    pub arguments : ArgumentsGiven setting w y.arena address vs
    pub takes_so_many : takes (length q.required) (is_some q.rest) (length vs) ≡ true
    pub function_word : SelfHeld w z.captured (Some self) cs
    pub method : MethodHeld setting w y.arena false (as_registers (chain ∷ length vs ∷ address ∷ [])) (Some 0) called_as
    pub method_arguments : (c : Called) → called_as ≡ Some c → c.arguments ≡ vs

  pub record EntryReserve (w : World) (around : DynamicContext) (z : FlatState) (y : MidState) : Type 0 where
    pub count : ℕ
    pub enough : entry_words ≤ count
    pub call : CallBegins setting rs valid count w around z y

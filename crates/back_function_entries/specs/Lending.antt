-- **The entry of a function whose arguments are lent in words that the application pays**, where there is a level.
use Rattle.std.specs.Prelude.{◌≡◌, ℕ, suc, ◌≤◌, true, List, [], ◌∷◌, Some, None, length, is_some}
use Rattle.lang_meaning.specs.Signals.{takes}
use Rattle.lang_meaning.specs.State.{DynamicContext}
use Rattle.lang_meaning.specs.Values.{Value}
use Rattle.flat_language.specs.declared.program.FlatProcedure.{FlatProcedure}
use Rattle.flat_language.specs.FlatSignals.{signal, descend, enter}
use Rattle.flat_language.specs.FlatState.{Captured, FlatState}
use Rattle.mid_code.specs.State.{MidState}
use Rattle.back_lowering.specs.Program.{Extra}
use Rattle.back_relation.specs.Setting.{Setting}
use Rattle.back_relation.specs.Activation.{SelfHeld}
use Rattle.back_relation.specs.Around.{SiteStored}
use Rattle.back_relation.specs.Ends.{SparingCall}
use Rattle.back_relation.specs.Forms.{below_at, context_at, code_at}
use Rattle.back_relation.specs.Placed.{IsPlaced}
use Rattle.back_relation.specs.Procedures.{called, IsFunction, CapturedFits, CalledFits, ArgumentsLent, entry_credit, BodyDoes}
use Rattle.back_relation.specs.Room.{entry_words}
use Rattle.back_relation.specs.Worlds.{World, Standing}
use Rattle.back_calling.specs.Lending.{LentBegins}
use Rattle.back_function_entries.specs.Entries.{ListDoesAnywhere, MethodDoesAnywhere}

module _ (setting : Setting) where
  -- **the entry of a function**, where there is a level: it is called as no method
  abbrev pub EntryLends : (k turns entry : ℕ) → Extra → FlatProcedure → Type 0
  EntryLends k turns entry extra q =
      (rs valid : List Standing) (cs : List Captured) (vs : List Value) (self address : ℕ) (w : World) (around : DynamicContext) (z : FlatState) (y : MidState)
      → IsFunction setting entry extra q → CapturedFits setting w entry extra q cs → CalledFits setting extra None → LentBegins setting rs valid entry_words (length vs) w around z y → SiteStored setting around y
      → ArgumentsLent setting w y.arena address vs → takes (length q.required) (is_some q.rest) (length vs) ≡ true → SelfHeld w z.captured (Some self) cs
      → SparingCall setting (entry_credit (length vs)) turns rs valid w around z y
      (descend (below_at setting (suc k)) (λ entered. enter (context_at setting (suc k)) (signal (context_at setting (suc k))) q cs None vs around entered) around z)
      (called (code_at setting (suc k) turns) entry (self ∷ 0 ∷ length vs ∷ address ∷ []) y)

-- where bodies do what is to be shown of them, entries do so
abbrev pub LawOfLentEntries : Type 0
LawOfLentEntries =
    (setting : Setting) (k turns number : ℕ) (extra : Extra) (q : FlatProcedure) → IsPlaced setting → turns ≤ setting.turns_each
    → ((n : ℕ) → turns ≡ suc n → ListDoesAnywhere setting (suc k) n × MethodDoesAnywhere setting (suc k) n) → BodyDoes setting k number extra q
    → EntryLends setting k turns number extra q

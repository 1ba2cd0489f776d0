-- What the routines of signals do that other routines call: how many words of the stack they have, what they are paid, and how many turns they
-- leave over.
use Rattle.std.specs.Prelude.{◌≡◌, ℕ, ◌+◌, ◌<◌, ◌≤◌, true, List, [], ◌∷◌}
use Rattle.lang_meaning.specs.Classes.{is_condition}
use Rattle.lang_meaning.specs.Objects.{built_in_classes}
use Rattle.lang_meaning.specs.State.{DynamicContext}
use Rattle.lang_meaning.specs.Values.{Value, nil}
use Rattle.flat_language.specs.FlatMeaning.{mean_signal}
use Rattle.flat_language.specs.FlatNodes.{tables}
use Rattle.flat_language.specs.FlatSignals.{signal, signal_domain_error, signal_under}
use Rattle.flat_language.specs.FlatState.{FlatState}
use Rattle.mid_code.specs.State.{MidState}
use Rattle.mid_arena.specs.FixedWords.{pending_address}
use Rattle.mid_arena.specs.Standing.{ValueAt}
use Rattle.back_lowering.specs.Program.{raise_frame}
use Rattle.back_lowering.specs.Routines.{raise_routine, signal_routine, pending_routine, failing_routine, failing_with_routine, domain_routine}
use Rattle.back_relation.specs.Setting.{Setting}
use Rattle.back_relation.specs.Worlds.{World, Standing}
use Rattle.back_relation.specs.Around.{SiteStored}
use Rattle.back_relation.specs.Forms.{context_at}
use Rattle.back_relation.specs.Room.{routine_words, failing_words, raise_words}
use Rattle.back_relation.specs.RoutineClaims.{WordIs, IsBuiltInCondition}
use Rattle.back_exits.specs.Within.{DoesWithin, transfer_words}

-- What is paid for a signal, so that the condition that a primitive made is paid too, and the turns that it leaves over where no handler takes
-- it.
abbrev pub raise_credit : ℕ
raise_credit = 344

abbrev pub unhandled_spare : ℕ
unhandled_spare = 47

-- it lays its own frame then, and what the transfer lays
abbrev pub unhandled_words : ℕ
unhandled_words = raise_frame + transfer_words

-- what is paid for a new condition beside the units of its words
abbrev pub making_credit : ℕ
making_credit = 50

-- and the turns that it leaves over at most: it has three words or more, whose units take 16 each, of which one unit and one turn are its own
abbrev pub making_spare : ℕ
making_spare = 31

module _ (setting : Setting) (k turns : ℕ) (rs valid : List Standing) (w : World) (around : DynamicContext) (z : FlatState) (y : MidState) where
  -- a condition is signalled under the handlers around
  abbrev pub RaiseWithin : (room spare credit : ℕ) → Type 0
  RaiseWithin room spare credit =
      (c mark : Value) (c_word mark_word : ℕ) → is_condition (tables setting.program) z.state c ≡ true → WordIs setting w c_word c → WordIs setting w mark_word mark
      → SiteStored setting around y
      → DoesWithin setting k turns rs valid w around z y room spare credit (raise_routine setting.at) (c_word ∷ mark_word ∷ [])
      (signal_under (context_at setting k) around.handlers c mark around z)

-- wherever it is, with that around, and with so many turns
abbrev pub RaisesAt : Setting → (k turns : ℕ) → DynamicContext → (spare credit : ℕ) → Type 0
RaisesAt setting k turns around spare credit =
    (rs valid : List Standing) (w : World) (z : FlatState) (y : MidState) → RaiseWithin setting k turns rs valid w around z y raise_words spare credit

-- or with fewer
abbrev pub RaisesWithin : Setting → (k turns : ℕ) → DynamicContext → (spare credit : ℕ) → Type 0
RaisesWithin setting k turns around spare credit = (t : ℕ) → t ≤ turns → RaisesAt setting k t around spare credit

module _ (setting : Setting) (k turns : ℕ) (rs valid : List Standing) (w : World) (around : DynamicContext) (z : FlatState) (y : MidState) where
  -- a condition of a class without slots, one of a class with one slot, and a domain error, with so many turns left over
  abbrev pub FailingWithin : (spare : ℕ) → Type 0
  FailingWithin spare =
      (class : ℕ) → IsBuiltInCondition class 0 → SiteStored setting around y
      → DoesWithin setting k turns rs valid w around z y failing_words spare making_credit (failing_routine setting.at) (class ∷ [])
      (signal (context_at setting k) class [] around z)

  abbrev pub FailingWithWithin : (spare : ℕ) → Type 0
  FailingWithWithin spare =
      (class : ℕ) (v : Value) (word : ℕ) → WordIs setting w word v → IsBuiltInCondition class 1 → SiteStored setting around y
      → DoesWithin setting k turns rs valid w around z y failing_words spare making_credit (failing_with_routine setting.at) (class ∷ word ∷ [])
      (signal (context_at setting k) class (v ∷ []) around z)

  abbrev pub DomainWithin : (spare : ℕ) → Type 0
  DomainWithin spare =
      (v : Value) (expected word : ℕ) → expected < built_in_classes → WordIs setting w word v → SiteStored setting around y
      → DoesWithin setting k turns rs valid w around z y failing_words spare making_credit (domain_routine setting.at) (word ∷ expected ∷ [])
      (signal_domain_error (context_at setting k) (signal (context_at setting k)) v expected around z)

  -- the condition that a primitive made
  abbrev pub PendingWithin : (spare credit : ℕ) → Type 0
  PendingWithin spare credit =
      (c : Value) → is_condition (tables setting.program) z.state c ≡ true → ValueAt w.places y.arena pending_address c → SiteStored setting around y
      → DoesWithin setting k turns rs valid w around z y failing_words spare credit (pending_routine setting.at) []
      (signal_under (context_at setting k) around.handlers c nil around z)

  -- a value, which is signalled if it is a condition
  abbrev pub SignalWithin : (credit : ℕ) → Type 0
  SignalWithin credit =
      (c mark : Value) (c_word mark_word : ℕ) → WordIs setting w c_word c → WordIs setting w mark_word mark → SiteStored setting around y
      → DoesWithin setting k turns rs valid w around z y routine_words 0 credit (signal_routine setting.at) (c_word ∷ mark_word ∷ [])
      (mean_signal (context_at setting k) c mark around z)

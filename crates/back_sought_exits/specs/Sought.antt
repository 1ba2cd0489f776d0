-- Ways to exits whose number alone is known: own ones that may be gone, and captured ones. `return-from` and `go` call the routine that seeks the
-- number.
use Rattle.std.specs.Prelude.{◌≡◌, ℕ, ◌+◌, ◌≤◌, true, List, Some, slice_get}
use Rattle.lang_meaning.specs.Standing.{is_block, is_segment}
use Rattle.lang_meaning.specs.State.{DynamicContext}
use Rattle.flat_language.specs.declared.place.CapturedKind.TheVariants as kind
use Rattle.flat_language.specs.declared.place.ExitPlace.{ExitPlace}
use Rattle.flat_language.specs.declared.place.ExitPlace.TheVariants.{Own, Captured}
use Rattle.flat_language.specs.FlatExits.{made_by}
use Rattle.flat_language.specs.FlatForm.{FlatForm, return_from, go}
use Rattle.flat_language.specs.FlatState.{FlatState}
use Rattle.mid_code.specs.State.{MidState}
use Rattle.back_lowering.specs.declared.scope.OwnExit.{OwnExit}
use Rattle.back_lowering.specs.declared.scope.Reach.TheVariants.{BySearch}
use Rattle.back_relation.specs.Points.{Here}
use Rattle.back_relation.specs.Setting.{Setting}
use Rattle.back_relation.specs.Placed.{IsPlaced}
use Rattle.back_relation.specs.Room.{routine_words}
use Rattle.back_relation.specs.Worlds.{World, Standing}
use Rattle.back_relation.specs.Activation.{FormScope}
use Rattle.back_relation.specs.Forms.{context_at, code_at, DoesForm}
use Rattle.back_relation.specs.RoutineClaims.{LeaveDoes}
use Rattle.back_exits.specs.Cleanups.{TransferGoes}

-- wherever it is called, the routine that leaves by a number does what the meaning does
abbrev pub LeavingDoes : (setting : Setting) → (k turns : ℕ) → Type 0
LeavingDoes setting k turns =
    (rs valid : List Standing) (w : World) (around : DynamicContext) (z : FlatState) (y : MidState) → LeaveDoes setting k turns rs valid w around z y

-- ---- in one scope

-- a value goes to a block of the activation
abbrev pub LawOfReturnsBySearch : Type 0
LawOfReturnsBySearch =
    (setting : Setting) (s : FormScope) (d n size k turns i : ℕ) (x : OwnExit) (f : FlatForm) → d + 4 ≤ size → routine_words ≤ n
    → LeavingDoes setting k turns → slice_get s.code.exits i ≡ Some x → x.reach ≡ BySearch → is_block (made_by s.exits (Own i)) ≡ true → Here setting s d n size k turns f
    → Here setting s d n size k turns (return_from (Own i) f)

-- a tagbody of the activation goes on at a segment, and nil's word is brought too
abbrev pub LawOfGoesBySearch : Type 0
LawOfGoesBySearch =
    (setting : Setting) (s : FormScope) (d n size k turns i segment : ℕ) (x : OwnExit) → d + 4 ≤ size → routine_words ≤ n
    → LeavingDoes setting k turns → slice_get s.code.exits i ≡ Some x → x.reach ≡ BySearch → is_segment segment (made_by s.exits (Own i)) ≡ true
    → Here setting s d n size k turns (go (Own i) segment)

-- a value goes to a block that was captured
abbrev pub LawOfReturnsToCaptured : Type 0
LawOfReturnsToCaptured =
    (setting : Setting) (s : FormScope) (d n size k turns i : ℕ) (f : FlatForm) → d + 4 ≤ size → routine_words ≤ n
    → LeavingDoes setting k turns → slice_get s.flat.captured i ≡ Some kind.Exit → is_block (made_by s.exits (Captured i)) ≡ true → Here setting s d n size k turns f
    → Here setting s d n size k turns (return_from (Captured i) f)

-- a tagbody that was captured goes on at a segment
abbrev pub LawOfGoesToCaptured : Type 0
LawOfGoesToCaptured =
    (setting : Setting) (s : FormScope) (d n size k turns i segment : ℕ) → d + 4 ≤ size → routine_words ≤ n
    → LeavingDoes setting k turns → slice_get s.flat.captured i ≡ Some kind.Exit → is_segment segment (made_by s.exits (Captured i)) ≡ true
    → Here setting s d n size k turns (go (Captured i) segment)

-- ---- wherever they stand: at once, by a transfer, by a search

abbrev pub LawOfWholeReturns : Type 0
LawOfWholeReturns =
    (setting : Setting) (k turns : ℕ) (p : ExitPlace) (f : FlatForm) → IsPlaced setting → TransferGoes setting k turns → LeavingDoes setting k turns
    → DoesForm setting turns (context_at setting k) (code_at setting k turns) f
    → DoesForm setting turns (context_at setting k) (code_at setting k turns) (return_from p f)

abbrev pub LawOfWholeGoes : Type 0
LawOfWholeGoes =
    (setting : Setting) (k turns : ℕ) (p : ExitPlace) (segment : ℕ) → IsPlaced setting → TransferGoes setting k turns → LeavingDoes setting k turns
    → DoesForm setting turns (context_at setting k) (code_at setting k turns) (go p segment)

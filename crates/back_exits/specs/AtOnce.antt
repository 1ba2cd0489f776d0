-- Own exits that may be left at once: a `return-from` or a `go` cuts to the record.
use Rattle.std.specs.Prelude.{◌≡◌, ℕ, ◌+◌, ◌≤◌, true, Some, slice_get}
use Rattle.lang_meaning.specs.Standing.{is_block, is_segment}
use Rattle.flat_language.specs.declared.place.ExitPlace.TheVariants.{Own}
use Rattle.flat_language.specs.FlatExits.{made_by}
use Rattle.flat_language.specs.FlatForm.{FlatForm, return_from, go}
use Rattle.back_lowering.specs.declared.scope.OwnExit.{OwnExit}
use Rattle.back_lowering.specs.declared.scope.Reach.TheVariants.{AtOnce}
use Rattle.back_relation.specs.Points.{Here}
use Rattle.back_relation.specs.Setting.{Setting}
use Rattle.back_relation.specs.Placed.{IsPlaced}
use Rattle.back_relation.specs.Activation.{FormScope}

-- a value goes to a block
abbrev pub LawOfReturnsAtOnce : Type 0
LawOfReturnsAtOnce =
    (setting : Setting) (s : FormScope) (d n size k turns i : ℕ) (x : OwnExit) (f : FlatForm) → IsPlaced setting → d + 3 ≤ size → slice_get s.code.exits i ≡ Some x
    → x.reach ≡ AtOnce → is_block (made_by s.exits (Own i)) ≡ true → Here setting s d n size k turns f → Here setting s d n size k turns (return_from (Own i) f)

-- a tagbody goes on at a segment
abbrev pub LawOfGoesAtOnce : Type 0
LawOfGoesAtOnce =
    (setting : Setting) (s : FormScope) (d n size k turns i segment : ℕ) (x : OwnExit) → IsPlaced setting → d + 3 ≤ size → slice_get s.code.exits i ≡ Some x
    → x.reach ≡ AtOnce → is_segment segment (made_by s.exits (Own i)) ≡ true → Here setting s d n size k turns (go (Own i) segment)

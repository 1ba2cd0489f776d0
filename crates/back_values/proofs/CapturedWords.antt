-- What the function itself captured: it stands behind a pointer that is in a register.
use Rattle.std.proofs.Common.{◌≡◌, ℕ, zero, suc, ◌+◌, ◌*◌, ◌^◌, ◌<◌, List, [], ◌∷◌, Option, Some, refl, subst, arith}
use Rattle.std.specs.Prelude.{slice_get}
use Rattle.std.proofs.lemmas.Option.{slice_get_within}
use Rattle.lang_meaning.specs.Objects.{Called}
use Rattle.lang_meaning.specs.Values.{Value}
use Rattle.flat_language.specs.declared.place.CapturedKind.{CapturedKind}
use Rattle.flat_language.specs.declared.place.CapturedKind.TheVariants as kind
use Rattle.flat_language.specs.FlatState.{Captured, of_value, of_box, of_exit, of_method, FlatState}
use Rattle.mid_code.specs.Arena.{Arena, word_at}
use Rattle.mid_code.specs.State.{MidState}
use Rattle.mid_arena.specs.Places.{of_object}
use Rattle.mid_arena.proofs.Growing.{spot_below}
use Rattle.mid_arena.proofs.Memory.{spot_low}
use Rattle.back_lowering.specs.Leaves.{captured_offset}
use Rattle.back_relation.specs.Setting.{Setting}
use Rattle.back_relation.specs.Worlds.{World}
use Rattle.back_relation.specs.Things.{Things, IsOfKind, AreOfKinds, CapturedIs, CapturedAt, FunctionStands, MadeFunction}
use Rattle.back_relation.specs.Activation.{SelfHeld}
use Rattle.back_values.specs.Variables.{CapturedByFunctions}

-- a captured part and its word
pub record PartAt (w : World) (a : Arena) (x : ℕ) (c : Captured) : Type 0 where
  pub word : ℕ
  pub stands : word_at a x ≡ Some word
  pub is : CapturedIs w word c

part_at : (w : World) (a : Arena) (x : ℕ) (cs : List Captured) (n : ℕ) (c : Captured) → CapturedAt w a x cs → slice_get cs n ≡ Some c → PartAt w a (x + 4 * n) c
part_at w a x [] n c h e = absurd (cc e)
part_at w a x (b ∷ cs) zero c h e =
    let same : b ≡ c = cc e in
    let at : x ≡ x + 4 * 0 = omega arith in
    record { word = h.0.0; stands = subst (λ p. word_at a p ≡ Some h.0.0) at h.0.1; is = subst (CapturedIs w h.0.0) same h.0.2 }
part_at w a x (b ∷ cs) (suc n) c h e =
    let old = part_at w a (x + 4) cs n c h.1 e in
    let at : x + 4 + 4 * n ≡ x + 4 * suc n = omega arith in
    record { word = old.word; stands = subst (λ p. word_at a p ≡ Some old.word) at old.stands; is = old.is }

-- a captured part of a kind
pub of_kind : (ks : List CapturedKind) (cs : List Captured) (n : ℕ) (k : CapturedKind) → AreOfKinds ks cs → slice_get ks n ≡ Some k → (c : Captured) × (slice_get cs n ≡ Some c) × IsOfKind k c
of_kind [] cs n k h e = absurd (cc e)
of_kind (j ∷ ks) [] n k h e = absurd h
of_kind (j ∷ ks) (c ∷ cs) zero k h e = let same : j ≡ k = cc e in (c, refl, subst (λ x. IsOfKind x c) same h.0)
of_kind (j ∷ ks) (c ∷ cs) (suc n) k h e = of_kind ks cs n k h.1 e

pub is_value : (c : Captured) → IsOfKind kind.Value c → (v : Value) × (c ≡ of_value v)
is_value (of_value v) h = (v, refl)
is_value (of_box o) h = absurd h
is_value (of_exit o) h = absurd h
is_value (of_method o) h = absurd h

pub is_box : (c : Captured) → IsOfKind kind.Boxed c → (o : Option ℕ) × (c ≡ of_box o)
is_box (of_value v) h = absurd h
is_box (of_box o) h = (o, refl)
is_box (of_exit o) h = absurd h
is_box (of_method o) h = absurd h

pub is_exit : (c : Captured) → IsOfKind kind.Exit c → (o : Option ℕ) × (c ≡ of_exit o)
is_exit (of_value v) h = absurd h
is_exit (of_box o) h = absurd h
is_exit (of_exit o) h = (o, refl)
is_exit (of_method o) h = absurd h

pub is_method : (c : Captured) → IsOfKind kind.Method c → (o : Option Called) × (c ≡ of_method o)
is_method (of_value v) h = absurd h
is_method (of_box o) h = absurd h
is_method (of_exit o) h = absurd h
is_method (of_method o) h = (o, refl)

-- where the part of a number stands
pub record PartThere (w : World) (a : Arena) (self : Option ℕ) (n : ℕ) (c : Captured) : Type 0 where
  pub pointer : ℕ
  pub held : self ≡ Some pointer
  pub low : pointer + captured_offset n < 2 ^ 32
  pub inside : pointer + captured_offset n < a.heap_to
  pub at : PartAt w a (pointer + captured_offset n) c

-- captured parts stand under the numbers of functions
pub by_functions : (setting : Setting) {w : World} {z : FlatState} {y : MidState} → Things setting w z y → CapturedByFunctions z
by_functions setting t i cs e = let at = t.captured i cs e in (at.0, at.1)

pub part_there :
    (setting : Setting) {w : World} {z : FlatState} {y : MidState} → Things setting w z y → CapturedByFunctions z → (self : Option ℕ) (cs : List Captured)
    → SelfHeld w z.captured self cs → (n : ℕ) (c : Captured) → slice_get cs n ≡ Some c → PartThere w y.arena self n c
part_there setting t functions self [] h n c e = absurd (cc e)
part_there setting {w} {z} {y} t functions self (b ∷ cs) h n c e =
    let f = functions h.2.number (b ∷ cs) h.2.captured in
    let made : MadeFunction setting w y.arena h.2.spot f.0 (b ∷ cs) =
    subst (λ o. FunctionStands setting w y.arena h.2.spot f.0 o) h.2.captured (t.functions h.2.number f.0 h.2.spot f.1 h.2.there) in
    let size = made.size in
    let end = spot_low t.represents.arena (t.represents.spots (of_object h.2.number) h.2.spot h.2.there) in
    let below = spot_below t.represents.arena (t.represents.spots (of_object h.2.number) h.2.spot h.2.there) in
    let few = slice_get_within (b ∷ cs) n c e in
    let here = h.2.here in
    let at : h.2.spot.address + 8 + 4 * n ≡ h.0 + captured_offset n = omega (arith, here) in
    record {
      pointer = h.0;
      held = h.1;
      low = omega (arith, here, size, end, few);
      inside = omega (arith, here, size, below, few);
      at = subst (λ x. PartAt w y.arena x c) at (part_at w y.arena (h.2.spot.address + 8) (b ∷ cs) n c made.captured e);
    }

-- The registers of a body's variables, and the slots of its frame.
use Rattle.std.proofs.Common.{◌≡◌, ℕ, zero, suc, ◌+◌, ◌-◌, ◌<◌, ◌≤◌, List, [], ◌∷◌, ◌++◌, length, map, replicate, Option, Some, None, refl, sym, ap, ◌∙◌, subst, length-append, arith}
use Rattle.std.specs.Prelude.{slice_get}
use Rattle.std.proofs.lemmas.List.{length-map}
use Rattle.lang_meaning.specs.Values.{Value}
use Rattle.flat_language.specs.declared.place.Home.{Home}
use Rattle.flat_language.specs.declared.place.Home.TheVariants as home
use Rattle.flat_language.specs.FlatState.{FrameSlot, holds, holds_box, new_slots}
use Rattle.mid_code.specs.State.{Registers, register, first_registers}
use Rattle.back_lowering.specs.Scope.{registers_from}
use Rattle.back_relation.specs.Worlds.{World}
use Rattle.back_relation.specs.Activation.{SlotHas, SlotIs}
use Rattle.back_relation.specs.Procedures.{as_registers}
use Rattle.back_values.specs.Arguments.{WordsIn}
use Rattle.back_values.specs.Boxes.{SlotsIn}

-- ---- registers one after another

pub registers_count : (d n : ℕ) → length (registers_from d n) ≡ n
registers_count d zero = refl
registers_count d (suc n) = ap suc (registers_count (d + 1) n)

pub register_of : (d n i r : ℕ) → slice_get (registers_from d n) i ≡ Some r → (r ≡ d + i) × (i < n)
register_of d zero i r e = absurd (cc e)
register_of d (suc n) zero r e = let same : d ≡ r = cc e in (omega (arith, same), omega arith)
register_of d (suc n) (suc i) r e = let h = register_of (d + 1) n i r e in (omega (arith, h.0), omega (arith, h.1))

-- ---- new slots

pub new_count : (hs : List Home) (vs : List Value) (c : ℕ) → length vs ≡ length hs → length (new_slots hs vs c) ≡ length hs
new_count [] vs c h = refl
new_count (x ∷ hs) [] c h = absurd (omega (arith, h))
new_count (home.Slot ∷ hs) (v ∷ vs) c h = ap suc (new_count hs vs c (omega (arith, h)))
new_count (home.Boxed ∷ hs) (v ∷ vs) c h = ap suc (new_count hs vs (c + 1) (omega (arith, h)))

pub new_homes : (hs : List Home) (vs : List Value) (c i : ℕ) (x : Home) → length vs ≡ length hs → slice_get hs i ≡ Some x → SlotHas x (slice_get (new_slots hs vs c) i)
new_homes [] vs c i x h e = absurd (cc e)
new_homes (y ∷ hs) [] c i x h e = absurd (omega (arith, h))
new_homes (home.Slot ∷ hs) (v ∷ vs) c zero x h e = let same : home.Slot ≡ x = cc e in subst (λ u. SlotHas u (Some (holds v))) same (v, refl)
new_homes (home.Boxed ∷ hs) (v ∷ vs) c zero x h e = let same : home.Boxed ≡ x = cc e in subst (λ u. SlotHas u (Some (holds_box c))) same (c, refl)
new_homes (home.Slot ∷ hs) (v ∷ vs) c (suc i) x h e = new_homes hs vs c i x (omega (arith, h)) e
new_homes (home.Boxed ∷ hs) (v ∷ vs) c (suc i) x h e = new_homes hs vs (c + 1) i x (omega (arith, h)) e

pub slot_in : (w : World) (d i r : ℕ) (fs : List FrameSlot) (f : FrameSlot) (regs : Registers) → SlotsIn w d fs regs → slice_get fs i ≡ Some f → r ≡ d + i
    → (word : ℕ) × (register r regs ≡ Some word) × SlotIs w word f
slot_in w d i r [] f regs h e same = absurd (cc e)
slot_in w d zero r (x ∷ fs) f regs h e same =
    let is : x ≡ f = cc e in
    let here : d ≡ r = omega (arith, same) in
    (h.0.0, subst (λ u. register u regs ≡ Some h.0.0) here h.0.1, subst (λ u. SlotIs w h.0.0 u) is h.0.2)
slot_in w d (suc i) r (x ∷ fs) f regs h e same = slot_in w (d + 1) i r fs f regs h.1 e (omega (arith, same))

-- ---- the registers at the beginning

in_front : (ws : List ℕ) (tl : Registers) (i w : ℕ) → slice_get ws i ≡ Some w → register i (map (λ x. Some x) ws ++ tl) ≡ Some w
in_front [] tl i w e = absurd (cc e)
in_front (v ∷ ws) tl zero w e = let same : v ≡ w = cc e in ap Some same
in_front (v ∷ ws) tl (suc i) w e = in_front ws tl i w e

list_front : (xs ys : List ℕ) (i x : ℕ) → slice_get xs i ≡ Some x → slice_get (xs ++ ys) i ≡ Some x
list_front [] ys i x e = absurd (cc e)
list_front (y ∷ xs) ys zero x e = e
list_front (y ∷ xs) ys (suc i) x e = list_front xs ys i x e

words_at : (d : ℕ) (ws : List ℕ) (regs : Registers) → ((i w : ℕ) → slice_get ws i ≡ Some w → register (d + i) regs ≡ Some w) → WordsIn d ws regs
words_at d [] regs h = tt
words_at d (w ∷ ws) regs h =
    let here : d + 0 ≡ d = omega arith in (
      subst (λ r. register r regs ≡ Some w) here (h 0 w refl),
      words_at (d + 1) ws regs (λ i v e. let there : d + suc i ≡ d + 1 + i = omega arith in subst (λ r. register r regs ≡ Some v) there (h (suc i) v e)),
    )

-- the words of the variables are in the first ones
pub first_words : (count : ℕ) (ws more : List ℕ) → WordsIn 0 ws (first_registers count (ws ++ more))
first_words count ws more =
    words_at 0 ws (first_registers count (ws ++ more))
    (λ i w e. let here : i ≡ 0 + i = omega arith in subst (λ r. register r (first_registers count (ws ++ more)) ≡ Some w) here (in_front (ws ++ more) _ i w (list_front ws more i w e)))

behind_words : (ws more : List ℕ) (tl : Registers) (i : ℕ) → i < length more → register (length ws + i) (map (λ x. Some x) (ws ++ more) ++ tl) ≡ register i (as_registers more)
behind_words [] [] tl i few = absurd (omega (arith, few))
behind_words [] (v ∷ more) tl zero few = refl
behind_words [] (v ∷ more) tl (suc i) few =
    let rest = behind_words [] more tl i (omega (arith, few)) in
    let here : 0 + i ≡ i = omega arith in
    let there : 0 + suc i ≡ suc i = omega arith in
    ap (λ n. register n (map (λ x. Some x) (v ∷ more) ++ tl)) there ∙ ap (λ n. register n (map (λ x. Some x) more ++ tl)) (sym here) ∙ rest
behind_words (w ∷ ws) more tl i few =
    let there : suc (length ws) + i ≡ suc (length ws + i) = omega arith in
    ap (λ n. register n (map (λ x. Some x) ((w ∷ ws) ++ more) ++ tl)) there ∙ behind_words ws more tl i few

-- those behind them are as given
pub more_words : (count : ℕ) (ws more : List ℕ) (n i : ℕ) → n ≡ length ws → i < length more → register (n + i) (first_registers count (ws ++ more)) ≡ register i (as_registers more)
more_words count ws more n i same few =
    ap (λ m. register (m + i) (first_registers count (ws ++ more))) same ∙ behind_words ws more (replicate {A = Option ℕ} (count - length (ws ++ more)) None) i few

replicated : (n : ℕ) → length (replicate {A = Option ℕ} n None) ≡ n
replicated zero = refl
replicated (suc n) = ap suc (replicated n)

pub first_count : (count : ℕ) (ws : List ℕ) → length ws ≤ count → length (first_registers count ws) ≡ count
first_count count ws few =
    length-append (map (λ x. Some x) ws) (replicate {A = Option ℕ} (count - length ws) None)
    ∙ ap (λ n. n + length (replicate {A = Option ℕ} (count - length ws) None)) (length-map ws (λ x. Some x)) ∙ ap (λ n. length ws + n) (replicated (count - length ws)) ∙ omega (arith, few)

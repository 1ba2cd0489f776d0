-- Straight-line code on a window of registers: those in front stay, and those of the window are written out, so that what is set computes.
use Rattle.std.proofs.Common.{◌≡◌, ℕ, zero, suc, ◌+◌, ◌^◌, ◌<◌, true, false, List, [], ◌∷◌, ◌++◌, length, Option, Some, refl, sym, ap, ◌∙◌, subst, arith}
use Rattle.std.specs.Prelude.{slice_get, slice_set, pos, ◌==◌, ◌-◌}
use Rattle.std.specs.Prelude.{◌/◌}
use Rattle.std.proofs.lemmas.Bool.{ne_eqb}
use Rattle.std.proofs.Math.ListN.{length-set}
use Rattle.mid_arena.proofs.Memory.{word_elsewhere, word_here, lent_with_word}
use Rattle.mid_code.specs.Meaning.{exec}
use Rattle.mid_code.specs.Meaning.{store as mid_store}
use Rattle.mid_code.specs.declared.operation.Operation.TheVariants.{Draw}
use Rattle.mid_code.specs.MidCode.{perform}
use Rattle.mid_code.specs.Words.{address}
use Rattle.mid_code.specs.Arena.{Arena, word_in, is_lent, word_at, with_word}
use Rattle.mid_code.specs.State.{Registers, register, falls, exhausted, stuck, ends, gives, charged, with_arena, with_some, choose_by}
use Rattle.mid_code.specs.State.{MidState}
use Rattle.mid_code.specs.Meaning.{Context, draw}
use Rattle.mid_arena.proofs.Running.{StepsTo, constant_falls, move_falls, load_falls, store_falls, address_up}
use Rattle.back_lowering.specs.Steps.{constant, move, load, store}
use Rattle.back_relation.specs.Stores.{stores, Differs, Aligned}

get_behind : (front win : Registers) (i j : ℕ) → j ≡ length front + i → slice_get (front ++ win) j ≡ slice_get win i
get_behind [] win i j e = let same : j ≡ i = omega (arith, e) in ap (slice_get win) same
get_behind (x ∷ front) win i zero e = absurd (omega (arith, e))
get_behind (x ∷ front) win i (suc j) e = get_behind front win i j (omega (arith, e))

set_behind : (front win : Registers) (i j : ℕ) (x : Option ℕ) → j ≡ length front + i → slice_set (front ++ win) j x ≡ front ++ slice_set win i x
set_behind [] win i j x e = let same : j ≡ i = omega (arith, e) in ap (λ k. slice_set win k x) same
set_behind (y ∷ front) win i zero x e = absurd (omega (arith, e))
set_behind (y ∷ front) win i (suc j) x e = ap (λ rs. y ∷ rs) (set_behind front win i j x (omega (arith, e)))

module _ (c : Context) (front : Registers) (d : ℕ) (many : length front ≡ d) where
  pub here : (win : Registers) (r i : ℕ) → r ≡ d + i → register r (front ++ win) ≡ register i win
  here win r i e = ap word_in (get_behind front win i r (omega (arith, e, many)))

  pub set_here : (win : Registers) (r i : ℕ) (x : Option ℕ) → r ≡ d + i → slice_set (front ++ win) r x ≡ front ++ slice_set win i x
  set_here win r i x e = set_behind front win i r x (omega (arith, e, many))

  pub constant_in : (win : Registers) (y : MidState) (r i w : ℕ) → r ≡ d + i → StepsTo c (constant r w) (front ++ win) y (ends falls (front ++ slice_set win i (Some w)) (charged 6 y))
  constant_in win y r i w e = record { same = (constant_falls).same ∙ ap (λ rs. ends falls rs (charged 6 y)) (set_here win r i (Some w) e) }

  pub move_in : (win : Registers) (y : MidState) (r i from j w : ℕ) → r ≡ d + i → from ≡ d + j → register j win ≡ Some w
      → StepsTo c (move r from) (front ++ win) y (ends falls (front ++ slice_set win i (Some w)) (charged 6 y))
  move_in win y r i from j w e f h = record { same = (move_falls (here win from j f ∙ h)).same ∙ ap (λ rs. ends falls rs (charged 6 y)) (set_here win r i (Some w) e) }

  pub load_in :
      (win : Registers) (y : MidState) (r i base j b k w : ℕ) → r ≡ d + i → base ≡ d + j → register j win ≡ Some b → b + k < 2 ^ 32 → word_at y.arena (b + k) ≡ Some w
      → StepsTo c (load r base k) (front ++ win) y (ends falls (front ++ slice_set win i (Some w)) (charged 8 y))
  load_in win y r i base j b k w e f h low word =
      record { same = (load_falls (here win base j f ∙ h) (address_up b k low) word).same ∙ ap (λ rs. ends falls rs (charged 8 y)) (set_here win r i (Some w) e) }

  pub store_in :
      (win : Registers) (y : MidState) (r i base j b k w : ℕ) → r ≡ d + i → base ≡ d + j → register i win ≡ Some w → register j win ≡ Some b → b + k < 2 ^ 32 → is_lent y.arena (b + k) ≡ true
      → StepsTo c (store r base k) (front ++ win) y (ends falls (front ++ win) (with_arena (with_word (b + k) w y.arena) (charged 8 y)))
  store_in win y r i base j b k w e f g h low lent = store_falls (here win r i e ∙ g) (here win base j f ∙ h) (address_up b k low) lent

  -- a serial number is drawn, where they do not end
  pub draw_in :
      (win : Registers) (y : MidState) (r i base j b k w : ℕ) → r ≡ d + i → base ≡ d + j → register j win ≡ Some b → b + k < 2 ^ 32 → word_at y.arena (b + k) ≡ Some w
      → (w == 2 ^ 32 - 1) ≡ false → is_lent y.arena (b + k) ≡ true
      → StepsTo c (perform (Draw r base (pos k))) (front ++ win) y (ends falls (front ++ slice_set win i (Some (w + 1))) (with_arena (with_word (b + k) (w + 1) y.arena) (charged 26 y)))
  unfolding exec with_some choose_by
  draw_in win y r i base j b k w e f h low word fewer lent = record {
    same =
        ap (λ o. with_some o (λ x. draw r (address x (pos k))) (front ++ win) (charged 26 y)) (here win base j f ∙ h)
        ∙ ap (λ x. draw r x (front ++ win) (charged 26 y)) (address_up b k low)
        ∙ ap (λ o. with_some o (λ n. choose_by (n == 2 ^ 32 - 1) (ends exhausted) (mid_store (b + k) (n + 1) (gives r (n + 1)))) (front ++ win) (charged 26 y)) word
        ∙ ap (λ t. choose_by t (ends exhausted) (mid_store (b + k) (w + 1) (gives r (w + 1))) (front ++ win) (charged 26 y)) fewer
        ∙ ap (λ t. choose_by t (λ rs x. gives r (w + 1) rs (with_arena (with_word (b + k) (w + 1) x.arena) x)) (ends stuck) (front ++ win) (charged 26 y)) lent
        ∙ ap (λ rs. ends falls rs (with_arena (with_word (b + k) (w + 1) y.arena) (charged 26 y))) (set_here win r i (Some (w + 1)) e);
  }

-- ---- words that are stored one after another

pub stored_elsewhere : (ps : List (ℕ × ℕ)) (a : Arena) (x : ℕ) → Aligned ps → Differs x ps → word_at (stores ps a) x ≡ word_at a x
stored_elsewhere [] a x g h = refl
stored_elsewhere (p ∷ ps) a x g h = stored_elsewhere ps (with_word p.0 p.1 a) x g.1 h.1 ∙ word_elsewhere a p.0 p.1 x g.0 (ne_eqb p.0 x h.0)

pub stored_size : (ps : List (ℕ × ℕ)) (a : Arena) → length (stores ps a).memory ≡ length a.memory
stored_size [] a = refl
stored_size (p ∷ ps) a = stored_size ps (with_word p.0 p.1 a) ∙ length-set a.memory (p.0 / 4) (Some p.1)

pub stored_lent : (ps : List (ℕ × ℕ)) (a : Arena) (x : ℕ) → is_lent (stores ps a) x ≡ is_lent a x
stored_lent [] a x = refl
stored_lent (p ∷ ps) a x = stored_lent ps (with_word p.0 p.1 a) x ∙ lent_with_word a p.0 p.1 x

-- the word that was stored last at an address
pub stored_here : (ps qs : List (ℕ × ℕ)) (x w : ℕ) (a : Arena) → is_lent a x ≡ true → x / 4 < length a.memory → Aligned qs → Differs x qs
    → word_at (stores (ps ++ (x, w) ∷ qs) a) x ≡ Some w
stored_here [] qs x w a lent there g h = stored_elsewhere qs (with_word x w a) x g h ∙ word_here a x w lent there
stored_here (p ∷ ps) qs x w a lent there g h =
    stored_here ps qs x w (with_word p.0 p.1 a) (lent_with_word a p.0 p.1 x ∙ lent) (subst (λ n. x / 4 < n) (sym (length-set a.memory (p.0 / 4) (Some p.1))) there) g h

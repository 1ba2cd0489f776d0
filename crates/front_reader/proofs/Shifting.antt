-- A gap in front only moves where the gap behind it ends.
use Rattle.std.proofs.Common.{◌≡◌, ℕ, suc, ◌+◌, Bool, true, false, List, [], ◌∷◌, ◌++◌, length, refl, sym, ap, ◌∙◌, add_assoc, add-zero, zero-add, if◌then◌else◌}
use Rattle.front_reader.specs.declared.gap.Mode.{Mode}
use Rattle.front_reader.specs.declared.gap.Mode.TheVariants.{Between, InLine, InBlock, Opens, Closes}
use Rattle.front_reader.specs.declared.gap.Skipped.{Skipped}
use Rattle.front_reader.specs.declared.gap.Skipped.TheVariants.{Ends, OpenFrom}
use Rattle.front_reader.specs.Gaps.{Gap}
use Rattle.front_reader.specs.bridge.Lexemes.{skip, mode_after_close}
use Rattle.front_reader.proofs.Skips.{skip-gap, skip-from}

-- the same, k bytes on
abbrev pub shifted : ℕ → Skipped → Skipped
shifted k (Ends n) = Ends (k + n)
shifted k (OpenFrom n) = OpenFrom (k + n)

either-shifted : (k : ℕ) (b : Bool) (x y u v : Skipped) → x ≡ shifted k u → y ≡ shifted k v
    → (if b then x else y) ≡ shifted k (if b then u else v)
either-shifted k true x y u v e f = e
either-shifted k false x y u v e f = f

-- one byte more, k bytes on
one_on : (m : Mode) (k i o : ℕ) (bs : List ℕ) (x : Skipped) → skip m (k + (i + 1)) o bs ≡ x → skip m (k + i + 1) o bs ≡ x
one_on m k i o bs x e = ap (λ n. skip m n o bs) (add_assoc k i 1) ∙ e

skip-shifted : (m : Mode) (k i o : ℕ) (bs : List ℕ) → skip m (k + i) (k + o) bs ≡ shifted k (skip m i o bs)
unfolding skip
skip-shifted Between k i o [] = refl
skip-shifted InLine k i o [] = refl
skip-shifted (InBlock n) k i o [] = refl
skip-shifted (Opens n) k i o [] = refl
skip-shifted (Closes n) k i o [] = refl
skip-shifted Between k i o (b ∷ bs) =
    either-shifted k _ _ _ _ _ (one_on Between k i (k + o) bs _ (skip-shifted Between k (i + 1) o bs))
    (either-shifted k _ _ _ _ _ (one_on InLine k i (k + o) bs _ (skip-shifted InLine k (i + 1) o bs))
    (either-shifted k _ _ _ _ _ (one_on (Opens 0) k i (k + i) bs _ (skip-shifted (Opens 0) k (i + 1) i bs)) refl))
skip-shifted InLine k i o (b ∷ bs) =
    either-shifted k _ _ _ _ _ (one_on Between k i (k + o) bs _ (skip-shifted Between k (i + 1) o bs))
    (one_on InLine k i (k + o) bs _ (skip-shifted InLine k (i + 1) o bs))
skip-shifted (InBlock n) k i o (b ∷ bs) =
    either-shifted k _ _ _ _ _ (one_on (Opens (suc n)) k i (k + o) bs _ (skip-shifted (Opens (suc n)) k (i + 1) o bs))
    (either-shifted k _ _ _ _ _ (one_on (Closes n) k i (k + o) bs _ (skip-shifted (Closes n) k (i + 1) o bs))
    (one_on (InBlock n) k i (k + o) bs _ (skip-shifted (InBlock n) k (i + 1) o bs)))
skip-shifted (Opens n) k i o (b ∷ bs) = one_on (InBlock n) k i (k + o) bs _ (skip-shifted (InBlock n) k (i + 1) o bs)
skip-shifted (Closes n) k i o (b ∷ bs) =
    one_on (mode_after_close n) k i (k + o) bs _ (skip-shifted (mode_after_close n) k (i + 1) o bs)

-- a gap in front is skipped
pub skip-front : (g r : List ℕ) → Gap g r → skip Between 0 0 (g ++ r) ≡ shifted (length g) (skip Between 0 0 r)
skip-front g r h =
    let e = skip-gap g r 0 0 h in
    e.1 ∙ ap (λ n. skip Between n e.0 r) (zero-add (length g) ∙ sym (add-zero (length g)))
    ∙ skip-from r (length g + 0) e.0 (length g + 0)
    ∙ skip-shifted Between (length g) 0 0 r

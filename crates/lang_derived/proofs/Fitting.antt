-- Data that fit patterns, one after the other.
use Rattle.std.specs.Prelude.{◌≡◌, ℕ, ◌-◌, min, Bool, true, false, List, ◌∷◌, ◌++◌, length, take, drop, Option, Some, None, Result, Ok, Err, IfOk, refl}
use Rattle.std.proofs.Common.{ap, ◌∙◌, sym, append_assoc}
use Rattle.std.proofs.lemmas.List.{take_min, drop_min}
use Rattle.base.specs.declared.faults.NoMemory.{NoMemory}
use Rattle.base.specs.Data.{Item}
use Rattle.lang_derived.specs.Patterns.{Parts, joined, taken_by, fit, fit_all}
use Rattle.lang_derived.specs.model.PatternView.{view_pattern, view_patterns, IsFit}
use Rattle.lang_derived.specs.Prefixes.{before}
use Rattle.lang_derived.specs.declared.pattern.Pattern.{Pattern}
use Rattle.lang_derived.proofs.Views.{counted}

-- the first pattern, and the others behind it
pub fit_turn : (names : List (List ℕ)) (ps xs : List Pattern) (x : Pattern) (ds front behind : List Item) (n m k : ℕ)
    → ps ≡ x ∷ xs → n ≡ length ds - length xs → m ≡ taken_by (view_pattern x) n → k ≡ min m (length ds)
    → front ≡ take k ds → behind ≡ drop k ds
    → fit_all names (view_patterns ps) ds ≡ joined (fit names (view_pattern x) front) (fit_all names (view_patterns xs) behind)
unfolding fit_all
fit_turn names ps xs x ds front behind n m k p e f g h i =
    rw (p, h, i, g, f, e, take_min (taken_by (view_pattern x) (length ds - length xs)) ds, drop_min (taken_by (view_pattern x) (length ds - length xs)) ds, counted xs)
    refl

pub not_fit : (b : Bool) (old new : Parts) (found more : Option Parts) → b ≡ false → IsFit b old new found → joined found more ≡ None
not_fit false old new found more e h = ap (λ x. joined x more) h
not_fit true old new found more e h = absurd (cc)

before_both : (old : Parts) (x y : Option Parts) (mid : Parts) → before old x ≡ Some mid → before mid y ≡ before old (joined x y)
before_both old None y mid h = absurd (cc)
before_both old (Some xs) None mid h = refl
before_both old (Some xs) (Some ys) mid h =
    let e : old ++ xs ≡ mid = cc in ap (λ zs. Some (zs ++ ys)) (sym e) ∙ ap Some (append_assoc old xs ys)

joined_none : (x : Option Parts) → joined x None ≡ None
joined_none None = refl
joined_none (Some xs) = refl

both_fit : (b c : Bool) (old mid new : Parts) (x y : Option Parts) → b ≡ true → IsFit b old mid x → IsFit c mid new y → IsFit c old new (joined x y)
both_fit false c old mid new x y e g h = absurd (cc)
both_fit true true old mid new x y e g h = sym (before_both old x y mid g) ∙ h
both_fit true false old mid new x y e g h = ap (joined x) h ∙ joined_none x

pub fit_behind : (r : Result Bool NoMemory) (b : Bool) (old mid new : Parts) (x y all : Option Parts) → all ≡ joined x y → b ≡ true → IsFit b old mid x
    → IfOk r (λ c. IsFit c mid new y) → IfOk r (λ c. IsFit c old new all)
fit_behind (Ok c) b old mid new x y all a e g h = rw a (both_fit b c old mid new x y e g h)
fit_behind (Err stop) b old mid new x y all a e g h = tt

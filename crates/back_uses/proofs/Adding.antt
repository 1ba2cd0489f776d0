-- Uses that are added one after another.
use Rattle.std.proofs.Common.{◌≡◌, ℕ, ◌+◌, List, [], ◌∷◌, ◌++◌, take, Some, slice_get, refl, sym, ◌∙◌, ap, subst, append_assoc, append-nil}
use Rattle.base.specs.model.DataRest.{take_at}
use Rattle.back_words.specs.Uses.{Use, as_global, as_dynamic, as_symbol, globals_among, dynamics_among, symbols_among}
use Rattle.back_uses.specs.declared.used.UsedNames.{UsedNames}
use Rattle.back_uses.specs.Used.{named, AreUsed, AreAdded}

-- ---- the names among uses behind others

globals_behind : (us vs : List Use) → globals_among (us ++ vs) ≡ globals_among us ++ globals_among vs
globals_behind [] vs = refl
globals_behind (as_global n ∷ us) vs = ap (λ ns. n ∷ ns) (globals_behind us vs)
globals_behind (as_dynamic n ∷ us) vs = globals_behind us vs
globals_behind (as_symbol n ∷ us) vs = globals_behind us vs

dynamics_behind : (us vs : List Use) → dynamics_among (us ++ vs) ≡ dynamics_among us ++ dynamics_among vs
dynamics_behind [] vs = refl
dynamics_behind (as_global n ∷ us) vs = dynamics_behind us vs
dynamics_behind (as_dynamic n ∷ us) vs = ap (λ ns. n ∷ ns) (dynamics_behind us vs)
dynamics_behind (as_symbol n ∷ us) vs = dynamics_behind us vs

symbols_behind : (us vs : List Use) → named (symbols_among (us ++ vs)) ≡ named (symbols_among us) ++ named (symbols_among vs)
symbols_behind [] vs = refl
symbols_behind (as_global n ∷ us) vs = symbols_behind us vs
symbols_behind (as_dynamic n ∷ us) vs = symbols_behind us vs
symbols_behind (as_symbol n ∷ us) vs = ap (λ ns. record { 0 = n } ∷ ns) (symbols_behind us vs)

-- ---- one after another

both : {X : Type 0} (a b c xs ys zs : List X) → b ≡ a ++ xs → c ≡ b ++ ys → zs ≡ xs ++ ys → c ≡ a ++ zs
both a b c xs ys zs e f g = f ∙ ap (λ l. l ++ ys) e ∙ append_assoc a xs ys ∙ ap (λ l. a ++ l) (sym g)

pub none_added : (old : UsedNames) → AreAdded old [] old
none_added old = record {
  globals = sym (append-nil old.globals);
  dynamics = sym (append-nil old.dynamics);
  symbols = sym (append-nil old.symbols);
}

pub both_added : {a b c : UsedNames} {us vs : List Use} → AreAdded a us b → AreAdded b vs c → AreAdded a (us ++ vs) c
both_added {a} {b} {c} {us} {vs} g h = record {
  globals = both a.globals b.globals c.globals _ _ _ g.globals h.globals (globals_behind us vs);
  dynamics = both a.dynamics b.dynamics c.dynamics _ _ _ g.dynamics h.dynamics (dynamics_behind us vs);
  symbols = both a.symbols b.symbols c.symbols _ _ _ g.symbols h.symbols (symbols_behind us vs);
}

-- the same uses in other words
pub same_added : {a b : UsedNames} {us vs : List Use} → vs ≡ us → AreAdded a us b → AreAdded a vs b
same_added {a} {b} e h = subst (λ ws. AreAdded a ws b) (sym e) h

-- all that are there, and more
pub used_more : {a b : UsedNames} {us vs : List Use} → AreUsed us a → AreAdded a vs b → AreUsed (us ++ vs) b
used_more {a} {b} {us} {vs} g h = record {
  globals = h.globals ∙ ap (λ l. l ++ globals_among vs) g.globals ∙ sym (globals_behind us vs);
  dynamics = h.dynamics ∙ ap (λ l. l ++ dynamics_among vs) g.dynamics ∙ sym (dynamics_behind us vs);
  symbols = h.symbols ∙ ap (λ l. l ++ named (symbols_among vs)) g.symbols ∙ sym (symbols_behind us vs);
}

-- ---- item by item, where the uses of a list are those of its first item and then those of the rest

module _ {X : Type 0} (all : List X → List Use) (one : X → List Use) (none : all [] ≡ [])
    (next : (x : X) (xs : List X) → all (x ∷ xs) ≡ one x ++ all xs) where
  uses_behind : (xs : List X) (x : X) → all (xs ++ x ∷ []) ≡ all xs ++ one x
  uses_behind [] x = next x [] ∙ ap (λ l. one x ++ l) none ∙ append-nil (one x) ∙ sym (ap (λ l. l ++ one x) none)
  uses_behind (y ∷ ys) x =
      next y (ys ++ x ∷ []) ∙ ap (λ l. one y ++ l) (uses_behind ys x) ∙ sym (append_assoc (one y) (all ys) (one x))
      ∙ ap (λ l. l ++ one x) (sym (next y ys))

  pub one_more : {a b c : UsedNames} (xs : List X) (i : ℕ) (x : X) → slice_get xs i ≡ Some x → AreAdded a (all (take i xs)) b → AreAdded b (one x) c
      → AreAdded a (all (take (i + 1) xs)) c
  one_more xs i x here g h = same_added (ap all (take_at xs i x here) ∙ uses_behind (take i xs) x) (both_added g h)

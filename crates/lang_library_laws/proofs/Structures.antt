-- Finite data in stores: what kind a value is of, and that values that are the same stand for one structure.
use Rattle.std.proofs.Common.{◌≡◌, ℤ, pos, negsuc, Bool, true, false, List, refl, sym, ap, subst, ◌∙◌, Option, Some, None, is_some, slice_get, arith}
use Rattle.std.proofs.lemmas.Bool.Decides.{nat_tests}
use Rattle.std.proofs.lemmas.Slice.Eq.{bytes_eq-Decides}
use Rattle.lang_meaning.specs.Values.{SymbolValue, named, unnamed, Value, nil, integer, character, symbol, object, same, same_symbol}
use Rattle.lang_meaning.specs.Objects.{Object, cons, string, vector}
use Rattle.lang_meaning.specs.Primitives.{as_cons, as_string, as_vector}
use Rattle.lang_library_laws.specs.Structures.{Structure, Structures, atom, pair, text, row, no_structure, structure_and, object_in, HasNoParts, IsAtom, StandsFor, StandForEach}
use Rattle.lang_library_laws.specs.Applications.{IsExtended}
use Rattle.lang_library_laws.proofs.Frames.{get_kept}

-- values that are the same are one value
same_integers : (a b : ℤ) → same (integer a) (integer b) ≡ true → a ≡ b
same_integers (pos a) (pos b) h = ap pos (grind (arith, nat_tests))
same_integers (pos a) (negsuc b) h = absurd (grind (arith, nat_tests))
same_integers (negsuc a) (pos b) h = absurd (grind (arith, nat_tests))
same_integers (negsuc a) (negsuc b) h = ap negsuc (grind (arith, nat_tests))

same_symbols : (a b : SymbolValue) → same_symbol a b ≡ true → a ≡ b
same_symbols (named a) (named b) h = ap named ((bytes_eq-Decides a b).0 h)
same_symbols (named a) (unnamed x s) h = absurd (cc h)
same_symbols (unnamed x s) (named b) h = absurd (cc h)
same_symbols (unnamed x s) (unnamed y r) h =
    let first : x ≡ y = grind (arith, nat_tests) in
    let second : s ≡ r = grind (arith, nat_tests) in
    cc

pub same_values : (x y : Value) → same x y ≡ true → x ≡ y
same_values (integer a) (integer b) h = ap integer (same_integers a b h)
same_values (character a) (character b) h = ap character (grind (arith, nat_tests))
same_values (symbol a) (symbol b) h = ap symbol (same_symbols a b h)
same_values nil nil h = refl
same_values (object a) (object b) h = ap object (grind (arith, nat_tests))
same_values x y h = absurd (cc h)

-- structures stand where they stood
atom_kept : {store now : List Object} → IsExtended Object store now → (v : Value) → IsAtom store v → IsAtom now v
atom_kept {store} {now} e (object i) h = by (slice_get store i) refl h
  where
    by : (o : Option Object) → slice_get store i ≡ o → HasNoParts o → HasNoParts (slice_get now i)
    by None is none = absurd none
    by (Some o) is none = subst HasNoParts (sym (get_kept e i o is)) none
atom_kept {store} {now} e v h = tt

mutual
  pub stands_kept : {store now : List Object} → IsExtended Object store now → (v : Value) (t : Structure) → StandsFor store v t → StandsFor now v t
  stands_kept {store} {now} e v (atom x) h = (h.0, atom_kept e v h.1)
  stands_kept {store} {now} e v (pair a d) h = (h.0, h.1, h.2, h.3, get_kept e h.0 _ h.4, stands_kept e h.1 a h.5, stands_kept e h.2 d h.6)
  stands_kept {store} {now} e v (text bytes) h = (h.0, h.1, get_kept e h.0 _ h.2, h.3)
  stands_kept {store} {now} e v (row ts) h = (h.0, h.1, h.2, get_kept e h.0 _ h.3, h.4, each_kept e h.1 ts h.5)

  pub each_kept : {store now : List Object} → IsExtended Object store now → (vs : List Value) (ts : Structures) → StandForEach store vs ts → StandForEach now vs ts
  each_kept {store} {now} e vs no_structure h = h
  each_kept {store} {now} e vs (structure_and t ts) h = (h.0, h.1, h.2, stands_kept e h.0 t h.3, each_kept e h.1 ts h.4)

-- the kinds of structures
abbrev pub is_pair : Structure → Bool
is_pair (pair a d) = true
is_pair t = false

abbrev pub is_text : Structure → Bool
is_text (text bytes) = true
is_text t = false

abbrev pub is_row : Structure → Bool
is_row (row ts) = true
is_row t = false

-- are those of the values that stand for them
pub record Kinds (o : Option Object) (t : Structure) : Type 0 where
  pub cons_is : is_some (as_cons o) ≡ is_pair t
  pub string_is : is_some (as_string o) ≡ is_text t
  pub vector_is : is_some (as_vector o) ≡ is_row t

no_parts : (o : Option Object) (x : Value) → HasNoParts o → Kinds o (atom x)
no_parts None x h = absurd h
no_parts (Some (cons a d)) x h = absurd h
no_parts (Some (string bytes)) x h = absurd h
no_parts (Some (vector vs)) x h = absurd h
no_parts (Some o) x h = record { cons_is = refl; string_is = refl; vector_is = refl }

pub kinds : (store : List Object) (v : Value) (t : Structure) → StandsFor store v t → Kinds (object_in store v) t
kinds store (object i) (atom x) h = no_parts (slice_get store i) x h.1
kinds store v (atom x) h = record { cons_is = refl; string_is = refl; vector_is = refl }
kinds store v (pair a d) h =
    let is : object_in store v ≡ Some (cons h.1 h.2) = ap (object_in store) h.3 ∙ h.4 in
    subst (λ o. Kinds o (pair a d)) (sym is) (record { cons_is = refl; string_is = refl; vector_is = refl })
kinds store v (text bytes) h =
    let is : object_in store v ≡ Some (string bytes) = ap (object_in store) h.1 ∙ h.2 in
    subst (λ o. Kinds o (text bytes)) (sym is) (record { cons_is = refl; string_is = refl; vector_is = refl })
kinds store v (row ts) h =
    let is : object_in store v ≡ Some (vector h.1) = ap (object_in store) h.2 ∙ h.3 in
    subst (λ o. Kinds o (row ts)) (sym is) (record { cons_is = refl; string_is = refl; vector_is = refl })

-- what stands for structures of two kinds is not the same
pub others_differ : (store : List Object) (x y : Value) (t r : Structure) → StandsFor store x t → StandsFor store y r
    → (is_pair t ≡ is_pair r → is_text t ≡ is_text r → is_row t ≡ is_row r → ⊥) → same x y ≡ false
others_differ store x y t r h g apart = by (same x y) refl
  where
    by : (b : Bool) → same x y ≡ b → b ≡ false
    by true is =
        let first : Kinds (object_in store x) t = kinds store x t h in
        let second : Kinds (object_in store x) r = subst (λ u. Kinds (object_in store u) r) (sym (same_values x y is)) (kinds store y r g) in
        absurd (apart (sym first.cons_is ∙ second.cons_is) (sym first.string_is ∙ second.string_is) (sym first.vector_is ∙ second.vector_is))
    by false is = refl

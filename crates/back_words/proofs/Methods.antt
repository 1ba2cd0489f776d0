-- The methods of a chain are methods of its generic function, so each takes as many arguments as that does.
use mathlib.Core.List.{reverse_aux}
use Rattle.std.proofs.Common.{◌≡◌, ℕ, zero, suc, ◌==◌, Bool, true, false, List, [], ◌∷◌, ◌++◌, length, map, Option, Some, None, refl, sym, ◌∙◌, ap, subst, arith}
use Rattle.std.specs.Prelude.{◌||◌, cond, filter, flat_map, reverse, slice_get, is_some, if◌then◌else◌}
use Rattle.std.specs.List.{list_any}
use Rattle.std.proofs.lemmas.Bool.Decides.{nat_tests}
use Rattle.base.specs.AllOf.{AllOf, all_at, all_map}
use Rattle.lang_meaning.specs.declared.program.ProgramRows.{ProgramRows}
use Rattle.lang_meaning.specs.declared.program.GenericRow.{GenericRow}
use Rattle.lang_meaning.specs.declared.program.MethodRow.{MethodRow}
use Rattle.lang_meaning.specs.declared.program.Qualifier.{Qualifier}
use Rattle.lang_meaning.specs.declared.program.Qualifier.TheVariants.{Primary, Around, Before, After}
use Rattle.lang_meaning.specs.Classes.{among, ordered, applies, more_specific, applicable, is_qualifier, of_kind, chain_of, chain}
use Rattle.lang_meaning.specs.Lookup.{is_in}
use Rattle.lang_meaning.specs.Objects.{Chain}
use Rattle.lang_meaning.specs.Signals.{takes}
use Rattle.flat_language.specs.declared.program.FlatProgram.{FlatProgram}
use Rattle.flat_language.specs.FlatNodes.{tables}
use Rattle.back_lowering.specs.Calls.{is_method}
use Rattle.back_relation.specs.Setting.{Setting}
use Rattle.back_relation.specs.Chains.{MethodTakes, ChainTakes}
use Rattle.back_words.specs.Asked.{MethodCongruent, RowsAsked}
use Rattle.back_words.proofs.Uses.{all_pairs}

-- ---- what holds of all, of some

all_filter : {X : Type 0} (P : X → Type 0) (p : X → Bool) (xs : List X) → AllOf P xs → AllOf P (filter p xs)
all_filter P p [] h = tt
all_filter P p (x ∷ xs) h =
    let rest : AllOf P (filter p xs) = all_filter P p xs h.1 in
    elim (p x) as (λ b. AllOf P (cond b (x ∷ filter p xs) (filter p xs))) [ true ↦ (h.0, rest) | false ↦ rest ]

all_onto : {X : Type 0} (P : X → Type 0) (xs ys : List X) → AllOf P xs → AllOf P ys → AllOf P (reverse_aux xs ys)
all_onto P [] ys h g = g
all_onto P (x ∷ xs) ys h g = all_onto P xs (x ∷ ys) h.1 (h.0, g)

all_reversed : {X : Type 0} (P : X → Type 0) (xs : List X) → AllOf P xs → AllOf P (reverse xs)
all_reversed P xs h = all_onto P xs [] h tt

all_among : (P : MethodRow → Type 0) (before : MethodRow → MethodRow → Bool) (m : MethodRow) (ms : List MethodRow) → P m → AllOf P ms
    → AllOf P (among before m ms)
all_among P before m [] x y = (x, tt)
all_among P before m (n ∷ ns) x y =
    let rest : AllOf P (among before m ns) = all_among P before m ns x y.1 in
    elim (before m n) as (λ b. AllOf P (if b then m ∷ n ∷ ns else n ∷ among before m ns)) [ true ↦ (x, y) | false ↦ (y.0, rest) ]

all_ordered : (P : MethodRow → Type 0) (before : MethodRow → MethodRow → Bool) (ms : List MethodRow) → AllOf P ms → AllOf P (ordered before ms)
all_ordered P before [] h = tt
all_ordered P before (m ∷ ms) h = all_among P before m (ordered before ms) h.0 (all_ordered P before ms h.1)

all_applicable : (P : MethodRow → Type 0) (program : ProgramRows) (cs : List ℕ) (ms : List MethodRow) → AllOf P ms → AllOf P (applicable program cs ms)
all_applicable P program cs ms h =
    all_ordered P (λ m n. more_specific program cs m.classes n.classes) (filter (λ m. applies program cs m.classes) ms)
    (all_filter P (λ m. applies program cs m.classes) ms h)

all_procedures : (P : ℕ → Type 0) (ms : List MethodRow) → AllOf (λ (m : MethodRow). P m.procedure) ms → AllOf P (map (λ m. m.procedure) ms)
all_procedures P [] h = tt
all_procedures P (m ∷ ms) h = (h.0, all_procedures P ms h.1)

all_of_kind : (P : ℕ → Type 0) (q : Qualifier) (ms : List MethodRow) → AllOf (λ (m : MethodRow). P m.procedure) ms → AllOf P (of_kind q ms)
all_of_kind P q ms h =
    all_procedures P (filter (λ m. is_qualifier q m.qualifier) ms)
    (all_filter (λ (m : MethodRow). P m.procedure) (λ m. is_qualifier q m.qualifier) ms h)

-- ---- chains

pub record AllOfChain (P : ℕ → Type 0) (c : Chain) : Type 0 where
  pub around : AllOf P c.around
  pub before : AllOf P c.before
  pub primary : AllOf P c.primary
  pub after : AllOf P c.after
  pub some : c.primary ≡ [] → ⊥

chain_all : (P : ℕ → Type 0) (ms : List MethodRow) (primary : List ℕ) (c : Chain) → AllOf (λ (m : MethodRow). P m.procedure) ms → AllOf P primary
    → chain_of ms primary ≡ Some c → AllOfChain P c
chain_all P ms [] c h g e = absurd (cc e)
chain_all P ms (p ∷ ps) c h g e =
    subst (AllOfChain P) (is e)
    (record {
      around = all_of_kind P Around ms h;
      before = all_of_kind P Before ms h;
      primary = g;
      after = all_reversed P (of_kind After ms) (all_of_kind P After ms h);
      some = λ none. absurd (cc none);
    })
  where
    this : Chain
    this = record { around = of_kind Around ms; before = of_kind Before ms; primary = p ∷ ps; after = reverse (of_kind After ms) }

    is : Some this ≡ Some c → this ≡ c
    is e = cc e

pub all_of_chain : (P : ℕ → Type 0) (program : ProgramRows) (g : GenericRow) (cs : List ℕ) (c : Chain)
    → AllOf (λ (m : MethodRow). P m.procedure) g.methods → chain program g cs ≡ Some c → AllOfChain P c
all_of_chain P program g cs c h e =
    let all : AllOf (λ (m : MethodRow). P m.procedure) (applicable program cs g.methods) =
    all_applicable (λ (m : MethodRow). P m.procedure) program cs g.methods h in
    chain_all P (applicable program cs g.methods) (of_kind Primary (applicable program cs g.methods)) c all
    (all_of_kind P Primary (applicable program cs g.methods) all) e

-- ---- methods are known as such

itself_in : (n : ℕ) (ns : List ℕ) → is_in n (n ∷ ns) ≡ true
itself_in n ns = let same : (n == n) ≡ true = grind (arith, nat_tests) in ap (λ b. b || is_in n ns) same

in_more : (n m : ℕ) (ns : List ℕ) → is_in n ns ≡ true → is_in n (m ∷ ns) ≡ true
in_more n m ns h = by (n == m)
  where
    by : (b : Bool) → (b || is_in n ns) ≡ true
    by true = refl
    by false = h

in_front : (n : ℕ) (xs ys : List ℕ) → is_in n xs ≡ true → is_in n (xs ++ ys) ≡ true
in_front n [] ys h = absurd (cc h)
in_front n (x ∷ xs) ys h = by (n == x) h (λ later. in_front n xs ys later)
  where
    by : (b : Bool) → (b || is_in n xs) ≡ true → (is_in n xs ≡ true → is_in n (xs ++ ys) ≡ true) → (b || is_in n (xs ++ ys)) ≡ true
    by true h more = refl
    by false h more = more h

in_behind : (n : ℕ) (xs ys : List ℕ) → is_in n ys ≡ true → is_in n (xs ++ ys) ≡ true
in_behind n [] ys h = h
in_behind n (x ∷ xs) ys h = in_more n x (xs ++ ys) (in_behind n xs ys h)

own_in : (ms : List MethodRow) → AllOf (λ (m : MethodRow). is_in m.procedure (map (λ m. m.procedure) ms) ≡ true) ms
own_in [] = tt
own_in (m ∷ ms) = (
  itself_in m.procedure (map (λ m. m.procedure) ms),
  all_map (λ (k : MethodRow). is_in k.procedure (map (λ m. m.procedure) ms) ≡ true)
      (λ (k : MethodRow). is_in k.procedure (map (λ m. m.procedure) (m ∷ ms)) ≡ true)
      (λ k h. in_more k.procedure m.procedure (map (λ m. m.procedure) ms) h) ms (own_in ms),
)

abbrev procedures_of : List GenericRow → List ℕ
procedures_of gs = flat_map (λ (g : GenericRow). map (λ (m : MethodRow). m.procedure) g.methods) gs

methods_in : (gs : List GenericRow) (i : ℕ) (g : GenericRow) → slice_get gs i ≡ Some g
    → AllOf (λ (m : MethodRow). is_in m.procedure (procedures_of gs) ≡ true) g.methods
methods_in [] i g e = absurd (cc e)
methods_in (f ∷ gs) zero g e =
    let same : f ≡ g = cc e in
    subst (λ k. AllOf (λ (m : MethodRow). is_in m.procedure (procedures_of (f ∷ gs)) ≡ true) k.methods) same
    (all_map (λ (m : MethodRow). is_in m.procedure (map (λ (m : MethodRow). m.procedure) f.methods) ≡ true)
    (λ (m : MethodRow). is_in m.procedure (procedures_of (f ∷ gs)) ≡ true)
    (λ m h. in_front m.procedure (map (λ (m : MethodRow). m.procedure) f.methods) (procedures_of gs) h) f.methods (own_in f.methods))
methods_in (f ∷ gs) (suc i) g e =
    all_map (λ (m : MethodRow). is_in m.procedure (procedures_of gs) ≡ true) (λ (m : MethodRow). is_in m.procedure (procedures_of (f ∷ gs)) ≡ true)
    (λ m h. in_behind m.procedure (map (λ (m : MethodRow). m.procedure) f.methods) (procedures_of gs) h) g.methods (methods_in gs i g e)

-- ---- all together

module _ (setting : Setting) (asked : RowsAsked setting.program) (number : ℕ) (g : GenericRow) (here : slice_get setting.program.generics number ≡ Some g) where
  method_takes : (count : ℕ) → takes g.required g.rest count ≡ true → (m : MethodRow) → MethodCongruent setting.program g m
      → is_method setting.program m.procedure ≡ true → MethodTakes setting count m.procedure
  method_takes count fits m congruent known = record {
    method = congruent.procedure;
    there = congruent.there;
    of_generic = known;
    takes_so_many = ap (λ r. takes r (is_some congruent.procedure.rest) count) congruent.required ∙ ap (λ b. takes g.required b count) congruent.rest ∙ fits;
  }

  pub chain_takes : (cs : List ℕ) (c : Chain) → chain (tables setting.program) g cs ≡ Some c
      → (count : ℕ) → takes g.required g.rest count ≡ true → ChainTakes setting count c
  chain_takes cs c e count fits =
      let all : AllOf (λ (m : MethodRow). MethodTakes setting count m.procedure) g.methods =
      all_pairs (MethodCongruent setting.program g) (λ (m : MethodRow). is_method setting.program m.procedure ≡ true)
      (λ (m : MethodRow). MethodTakes setting count m.procedure) (method_takes count fits) g.methods
      (all_at (λ (g : GenericRow). AllOf (MethodCongruent setting.program g) g.methods) setting.program.generics number g asked.methods here)
      (methods_in setting.program.generics number g here) in
      let of_chain = all_of_chain (MethodTakes setting count) (tables setting.program) g cs c all e in
      record { around = of_chain.around; before = of_chain.before; primary = of_chain.primary; after = of_chain.after }

  pub has_primary : (cs : List ℕ) (c : Chain) → chain (tables setting.program) g cs ≡ Some c → c.primary ≡ [] → ⊥
  has_primary cs c e =
      (all_of_chain (λ p. Unit {0}) (tables setting.program) g cs c (all_any g.methods) e).some
    where
      all_any : (ms : List MethodRow) → AllOf (λ (m : MethodRow). Unit {0}) ms
      all_any [] = tt
      all_any (m ∷ ms) = (tt, all_any ms)

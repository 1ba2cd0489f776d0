-- The methods of a chain are among those of the generic function.
use Rattle.std.proofs.Common.{◌≡◌, ℕ, zero, suc, ◌+◌, Bool, true, false, List, [], ◌∷◌, refl, sym, subst, Some, map, arith, add-zero}
use Rattle.std.specs.Prelude.{filter, reverse, cond, slice_get, if◌then◌else◌}
use Rattle.std.proofs.lemmas.List.{reverse-append}
use Rattle.base.specs.AllOf.{AllOf, all_both}
use Rattle.lang_meaning.specs.declared.program.Procedure.{Procedure}
use Rattle.lang_meaning.specs.declared.program.GenericRow.{GenericRow}
use Rattle.lang_meaning.specs.declared.program.MethodRow.{MethodRow}
use Rattle.lang_meaning.specs.declared.program.Qualifier.{Qualifier}
use Rattle.lang_meaning.specs.declared.program.Qualifier.TheVariants.{Primary, Around, Before, After}
use Rattle.lang_meaning.specs.declared.program.ProgramRows.{ProgramRows}
use Rattle.lang_meaning.specs.Objects.{Chain}
use Rattle.lang_meaning.specs.Classes.{applies, more_specific, among, ordered, applicable, is_qualifier, of_kind, chain_of, chain}
use Rattle.lang_reached.specs.LeftOut.{is_marked, KeepsProcedure, procedures_left}
use Rattle.lang_reached.proofs.Live.{Setting, Keeps, ChainFine}

-- a procedure that is kept is as it was
pub kept_there : (marks : List Bool) (n : ℕ) (qs : List Procedure) (i : ℕ) → is_marked marks (n + i) ≡ true
    → slice_get (procedures_left marks n qs) i ≡ slice_get qs i
kept_there marks n [] i h = refl
kept_there marks n (q ∷ qs) zero h =
    let here : is_marked marks n ≡ true = subst (λ m. is_marked marks m ≡ true) (add-zero n) h in
    rw here refl
kept_there marks n (q ∷ qs) (suc i) h =
    let same : n + suc i ≡ n + 1 + i = omega arith in
    kept_there marks (n + 1) qs i (subst (λ m. is_marked marks m ≡ true) same h)

all_filter : {X : Type 0} (P : X → Type 0) (test : X → Bool) (xs : List X) → AllOf P xs → AllOf P (filter test xs)
all_filter P test [] h = tt
all_filter P test (x ∷ xs) h = by (test x) (all_filter P test xs h.1)
  where
    by : (b : Bool) → AllOf P (filter test xs) → AllOf P (cond b (x ∷ filter test xs) (filter test xs))
    by true others = (h.0, others)
    by false others = others

all_reverse : {X : Type 0} (P : X → Type 0) (xs : List X) → AllOf P xs → AllOf P (reverse xs)
all_reverse P [] h = tt
all_reverse P (x ∷ xs) h =
    subst (AllOf P) (sym (reverse-append (x ∷ []) xs)) (all_both P (reverse xs) (x ∷ []) (all_reverse P xs h.1) (h.0, tt))

all_mapped : {X Y : Type 0} (P : Y → Type 0) (f : X → Y) (xs : List X) → AllOf (λ x. P (f x)) xs → AllOf P (map f xs)
all_mapped P f [] h = tt
all_mapped P f (x ∷ xs) h = (h.0, all_mapped P f xs h.1)

all_among : (P : MethodRow → Type 0) (before : MethodRow → MethodRow → Bool) (m : MethodRow) (ms : List MethodRow) → P m → AllOf P ms
    → AllOf P (among before m ms)
all_among P before m [] p h = (p, tt)
all_among P before m (n ∷ ns) p h = by (before m n) (all_among P before m ns p h.1)
  where
    by : (b : Bool) → AllOf P (among before m ns) → AllOf P (if b then m ∷ n ∷ ns else n ∷ among before m ns)
    by true others = (p, h)
    by false others = (h.0, others)

all_ordered : (P : MethodRow → Type 0) (before : MethodRow → MethodRow → Bool) (ms : List MethodRow) → AllOf P ms → AllOf P (ordered before ms)
all_ordered P before [] h = tt
all_ordered P before (m ∷ ms) h = all_among P before m (ordered before ms) h.0 (all_ordered P before ms h.1)

module _ (t : Setting) where
  abbrev KeepsMethod : MethodRow → Type 0
  KeepsMethod m = KeepsProcedure t.kept m.procedure

  kind_fine : (q : Qualifier) (ms : List MethodRow) → AllOf KeepsMethod ms → AllOf (Keeps t) (of_kind q ms)
  kind_fine q ms h =
      all_mapped (Keeps t) (λ (m : MethodRow). m.procedure) (filter (λ m. is_qualifier q m.qualifier) ms)
      (all_filter KeepsMethod (λ m. is_qualifier q m.qualifier) ms h)

  of_fine : (ms : List MethodRow) → AllOf KeepsMethod ms → (primary : List ℕ) → AllOf (Keeps t) primary → (c : Chain)
      → chain_of ms primary ≡ Some c → ChainFine t c
  of_fine ms h [] p c e = absurd (cc)
  of_fine ms h (q ∷ qs) p c e =
      let same : record { around = of_kind Around ms; before = of_kind Before ms; primary = q ∷ qs; after = reverse (of_kind After ms) } ≡ c = cc in
      subst (ChainFine t) same (record {
        around = kind_fine Around ms h;
        before = kind_fine Before ms h;
        primary = p;
        after = all_reverse (Keeps t) (of_kind After ms) (kind_fine After ms h);
      })

  pub chain_fine : (program : ProgramRows) (g : GenericRow) (cs : List ℕ) → AllOf KeepsMethod g.methods → (c : Chain) → chain program g cs ≡ Some c
      → ChainFine t c
  chain_fine program g cs h c e =
      let chosen = applicable program cs g.methods in
      let all : AllOf KeepsMethod chosen =
      all_ordered KeepsMethod (λ m n. more_specific program cs m.classes n.classes) (filter (λ m. applies program cs m.classes) g.methods)
      (all_filter KeepsMethod (λ m. applies program cs m.classes) g.methods h) in
      of_fine chosen all (of_kind Primary chosen) (kind_fine Primary chosen all) c e

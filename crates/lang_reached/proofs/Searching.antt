-- Steps of the search, one behind another.
use Rattle.std.proofs.Common.{◌≡◌, ℕ, zero, suc, ◌+◌, ◌<◌, ◌≤◌, ◌==◌, Bool, true, false, List, [], ◌∷◌, ◌++◌, length, refl, sym, ap, subst, ◌∙◌, Some, None, arith, ◌⊎◌, inl, inr, ⊎_elim}
use Rattle.std.proofs.lemmas.Bool.{eqb-true, eq-eqb, cases_lt}
use Rattle.std.proofs.Math.ListN.{length-set}
use Rattle.std.proofs.lemmas.Option.{slice_get_within}
use Rattle.std.specs.Prelude.{not, OnOk, Result, slice_get, slice_set, if◌then◌else◌}
use Rattle.base.specs.AllOf.{AllOf, all_map}
use Rattle.lang_meaning.specs.declared.program.GenericRow.{GenericRow}
use Rattle.lang_meaning.specs.declared.program.MethodRow.{MethodRow}
use Rattle.lang_meaning.specs.declared.program.FunctionRow.{FunctionRow}
use Rattle.lang_meaning.specs.declared.program.ProgramRows.{ProgramRows}
use Rattle.lang_meaning.specs.Literals.{function_row}
use Rattle.lang_meaning.specs.Lookup.{text}
use Rattle.lang_rows.proofs.Filling.{looked_up}
use Rattle.base.specs.declared.faults.NoMemory.{NoMemory}
use Rattle.lang_reached.specs.declared.search.Search.{Search}
use Rattle.lang_reached.specs.LeftOut.{is_marked, KeepsProcedure, KeepsGeneric, KeepsCallee, KeepsRow, KeepsNamed, KeepsMethods}
use Rattle.lang_reached.specs.Mentioned.{AnyOf, OneHas, GenericBrings, CalleeBrings, RowBrings, NameBrings}
use Rattle.lang_reached.specs.Search.{Waits, Marks, MarksMethods}

-- ---- flags

-- a number without a flag is marked
unmarked_inside : (marks : List Bool) (n : ℕ) → is_marked marks n ≡ false → n < length marks
unmarked_inside [] n h = absurd (cc)
unmarked_inside (b ∷ marks) zero h = omega arith
unmarked_inside (b ∷ marks) (suc n) h = let k = unmarked_inside marks n h in omega (arith, k)

-- what is marked once a flag is set
after_set : (marks : List Bool) (n m : ℕ) → is_marked marks n ≡ false → is_marked (slice_set marks n true) m ≡ (if m == n then true else is_marked marks m)
after_set marks n m h = looked_up marks n m true true (unmarked_inside marks n h)

set_itself : (marks : List Bool) (n : ℕ) → is_marked marks n ≡ false → is_marked (slice_set marks n true) n ≡ true
set_itself marks n h = let here : (n == n) ≡ true = eq-eqb n n refl in after_set marks n n h ∙ ap (λ b. if b then true else is_marked marks n) here

set_stays : (marks : List Bool) (n m : ℕ) → is_marked marks n ≡ false → is_marked marks m ≡ true → is_marked (slice_set marks n true) m ≡ true
set_stays marks n m h k = after_set marks n m h ∙ by (m == n)
  where
    by : (b : Bool) → (if b then true else is_marked marks m) ≡ true
    by true = refl
    by false = k

set_fresh : (marks : List Bool) (n m : ℕ) → is_marked marks n ≡ false → is_marked (slice_set marks n true) m ≡ true → (is_marked marks m ≡ true) ⊎ (m ≡ n)
set_fresh marks n m h k = by (m == n) (λ e. eqb-true m n e) (sym (after_set marks n m h) ∙ k)
  where
    by : (b : Bool) → (b ≡ true → m ≡ n) → (if b then true else is_marked marks m) ≡ true → (is_marked marks m ≡ true) ⊎ (m ≡ n)
    by true same e = inr (same refl)
    by false same e = inl e

not_true : (b : Bool) → not b ≡ true → b ≡ false
not_true true h = absurd (cc)
not_true false h = refl

-- ---- lists

pub any_front : {X : Type 0} (P : X → Type 0) (xs ys : List X) → AnyOf P xs → AnyOf P (xs ++ ys)
any_front P [] ys h = absurd h
any_front P (x ∷ xs) ys (inl p) = inl p
any_front P (x ∷ xs) ys (inr h) = inr (any_front P xs ys h)

pub any_back : {X : Type 0} (P : X → Type 0) (xs ys : List X) → AnyOf P ys → AnyOf P (xs ++ ys)
any_back P [] ys h = h
any_back P (x ∷ xs) ys h = inr (any_back P xs ys h)

pub any_either : {X : Type 0} (P : X → Type 0) (xs ys : List X) → AnyOf P (xs ++ ys) → AnyOf P xs ⊎ AnyOf P ys
any_either P [] ys h = inr h
any_either P (x ∷ xs) ys (inl p) = inl (inl p)
any_either P (x ∷ xs) ys (inr h) = by (any_either P xs ys h)
  where
    by : AnyOf P xs ⊎ AnyOf P ys → AnyOf P (x ∷ xs) ⊎ AnyOf P ys
    by (inl a) = inl (inr a)
    by (inr b) = inr b

pub any_at : {X : Type 0} (P : X → Type 0) (xs : List X) (i : ℕ) (x : X) → slice_get xs i ≡ Some x → P x → AnyOf P xs
any_at P [] i x e p = absurd (cc)
any_at P (y ∷ ys) zero x e p = let same : x ≡ y = cc in inl (subst P same p)
any_at P (y ∷ ys) (suc i) x e p = inr (any_at P ys i x e p)

pub all_of : {X : Type 0} (P : X → Type 0) (xs : List X) → ((i : ℕ) (x : X) → slice_get xs i ≡ Some x → P x) → AllOf P xs
all_of P [] h = tt
all_of P (x ∷ xs) h = (h 0 x refl, all_of P xs (λ i y e. h (suc i) y e))

pub one_item : {X : Type 0} (xs : List X) (i j : ℕ) (x y : X) → i ≡ j → slice_get xs i ≡ Some x → slice_get xs j ≡ Some y → x ≡ y
one_item xs i j x y s e f = let same : Some x ≡ Some y = sym e ∙ ap (slice_get xs) s ∙ f in cc

-- ---- steps

module _ (names : List (List ℕ)) (program : ProgramRows) where
  pub marks_none : (M : ℕ → Type 0) (s : Search) → Marks names program M s s
  marks_none M s = record {
    procedures = refl;
    generics = refl;
    keeps = λ p h. h;
    keeps_generic = λ g h. h;
    waits = λ p h. h;
    fresh = λ p h. inl h;
    waiting = λ p h. inl h;
    methods = λ g row e h. inl h;
  }

  methods_later : (a b : Search) → ((p : ℕ) → KeepsProcedure a.kept p → KeepsProcedure b.kept p) → (row : GenericRow)
      → KeepsMethods names program a.kept row → KeepsMethods names program b.kept row
  methods_later a b h row k =
      all_map (λ (m : MethodRow). KeepsProcedure a.kept m.procedure) (λ (m : MethodRow). KeepsProcedure b.kept m.procedure) (λ m. h m.procedure) row.methods k

  -- two steps, of which each brings something of what both bring
  pub marks_then : (M N L : ℕ → Type 0) (a b c : Search) → ((p : ℕ) → M p → L p) → ((p : ℕ) → N p → L p) → Marks names program M a b → Marks names program N b c
      → Marks names program L a c
  marks_then M N L a b c f g x y = record {
    procedures = y.procedures ∙ x.procedures;
    generics = y.generics ∙ x.generics;
    keeps = λ p h. y.keeps p (x.keeps p h);
    keeps_generic = λ n h. y.keeps_generic n (x.keeps_generic n h);
    waits = λ p h. y.waits p (x.waits p h);
    fresh = λ p h. fresh_by p (y.fresh p h);
    waiting = λ p h. waiting_by p (y.waiting p h);
    methods = λ n row e h. methods_by n row e (y.methods n row e h);
  }
    where
      fresh_first : (p : ℕ) → KeepsProcedure a.kept p ⊎ (Waits p b × M p) → KeepsProcedure a.kept p ⊎ (Waits p c × L p)
      fresh_first p (inl h) = inl h
      fresh_first p (inr h) = inr (y.waits p h.0, f p h.1)

      fresh_by : (p : ℕ) → KeepsProcedure b.kept p ⊎ (Waits p c × N p) → KeepsProcedure a.kept p ⊎ (Waits p c × L p)
      fresh_by p (inl h) = fresh_first p (x.fresh p h)
      fresh_by p (inr h) = inr (h.0, g p h.1)

      waiting_first : (p : ℕ) → Waits p a ⊎ M p → Waits p a ⊎ L p
      waiting_first p (inl h) = inl h
      waiting_first p (inr h) = inr (f p h)

      waiting_by : (p : ℕ) → Waits p b ⊎ N p → Waits p a ⊎ L p
      waiting_by p (inl h) = waiting_first p (x.waiting p h)
      waiting_by p (inr h) = inr (g p h)

      methods_first : (n : ℕ) (row : GenericRow) → KeepsGeneric a.kept n ⊎ KeepsMethods names program b.kept row → KeepsGeneric a.kept n ⊎ KeepsMethods names program c.kept row
      methods_first n row (inl h) = inl h
      methods_first n row (inr h) = inr (methods_later b c y.keeps row h)

      methods_by : (n : ℕ) (row : GenericRow) → slice_get program.generics n ≡ Some row → KeepsGeneric b.kept n ⊎ KeepsMethods names program c.kept row
          → KeepsGeneric a.kept n ⊎ KeepsMethods names program c.kept row
      methods_by n row e (inl h) = methods_first n row (x.methods n row e h)
      methods_by n row e (inr h) = inr h

  -- one procedure is marked, and waits
  pub marked_one : (a : Search) (p : ℕ) → not (is_marked a.kept.procedures p) ≡ true → (flags : List Bool) (pending : List ℕ)
      → flags ≡ slice_set a.kept.procedures p true → pending ≡ a.pending ++ p ∷ []
      → Marks names program (λ q. p ≡ q) a (record { kept = record { procedures = flags; generics = a.kept.generics }; pending = pending }) × (is_marked flags p ≡ true)
  marked_one a p h flags pending e f =
      let unmarked = not_true (is_marked a.kept.procedures p) h in
      let there : AnyOf (λ q. q ≡ p) pending = subst (AnyOf (λ q. q ≡ p)) (sym f) (any_back (λ q. q ≡ p) a.pending (p ∷ []) (inl refl)) in (
        record {
          procedures = ap length e ∙ length-set a.kept.procedures p true;
          generics = refl;
          keeps = λ q k. ap (λ fs. is_marked fs q) e ∙ set_stays a.kept.procedures p q unmarked k;
          keeps_generic = λ n k. k;
          waits = λ q k. subst (AnyOf (λ r. r ≡ q)) (sym f) (any_front (λ r. r ≡ q) a.pending (p ∷ []) k);
          fresh = λ q k. fresh_by q (set_fresh a.kept.procedures p q unmarked (ap (λ fs. is_marked fs q) (sym e) ∙ k)) there;
          waiting = λ q k. waiting_by q (any_either (λ r. r ≡ q) a.pending (p ∷ []) (subst (AnyOf (λ r. r ≡ q)) f k));
          methods = λ n row d k. inl k;
        },
        ap (λ fs. is_marked fs p) e ∙ set_itself a.kept.procedures p unmarked,
      )
    where
      fresh_by : (q : ℕ) → (is_marked a.kept.procedures q ≡ true) ⊎ (q ≡ p) → AnyOf (λ r. r ≡ p) pending
          → KeepsProcedure a.kept q ⊎ (AnyOf (λ r. r ≡ q) pending × (p ≡ q))
      fresh_by q (inl k) there = inl k
      fresh_by q (inr k) there = inr (subst (λ r. AnyOf (λ s. s ≡ r) pending) (sym k) there, sym k)

      waiting_by : (q : ℕ) → AnyOf (λ r. r ≡ q) a.pending ⊎ AnyOf (λ r. r ≡ q) (p ∷ []) → AnyOf (λ r. r ≡ q) a.pending ⊎ (p ≡ q)
      waiting_by q (inl k) = inl k
      waiting_by q (inr (inl k)) = inr k
      waiting_by q (inr (inr k)) = absurd k

  -- the methods before one are marked
  pub record MarksSome (rows : List MethodRow) (n : ℕ) (old new : Search) : Type 0 where
    pub marks : Marks names program (OneHas rows) old new
    pub each : (i : ℕ) (m : MethodRow) → i < n → slice_get rows i ≡ Some m → KeepsProcedure new.kept m.procedure

  pub method_more : (rows : List MethodRow) (n : ℕ) (m : MethodRow) (a b c : Search) → slice_get rows n ≡ Some m → MarksSome rows n a b
      → Marks names program (λ p. m.procedure ≡ p) b c × KeepsProcedure c.kept m.procedure → MarksSome rows (n + 1) a c
  method_more rows n m a b c e x y = record {
    marks = marks_then (OneHas rows) (λ p. m.procedure ≡ p) (OneHas rows) a b c (λ p h. h)
        (λ p h. any_at (λ (r : MethodRow). r.procedure ≡ p) rows n m e h) x.marks y.0;
    each = λ i r h f.
        ⊎_elim
        (λ (k : i < n). y.0.keeps r.procedure (x.each i r k f))
        (λ (k : n ≤ i).
        let same : i ≡ n = omega (arith, h, k) in
        let one : r ≡ m = one_item rows i n r m same f e in
        subst (λ (q : MethodRow). KeepsProcedure c.kept q.procedure) (sym one) y.1)
        (cases_lt i n);
  }

  pub methods_all : (rows : List MethodRow) (n : ℕ) (a b : Search) → length rows ≤ n → MarksSome rows n a b → MarksMethods names program rows a b
  methods_all rows n a b h x = record {
    marks = x.marks;
    each = all_of (λ (m : MethodRow). KeepsProcedure b.kept m.procedure) rows (λ i m e.
        let inside = slice_get_within rows i m e in x.each i m (omega (arith, inside, h)) e);
  }

  -- a generic function is marked, and then its methods
  pub generic_marked : (a b : Search) (n : ℕ) (row : GenericRow) → slice_get program.generics n ≡ Some row → not (is_marked a.kept.generics n) ≡ true
      → (flags : List Bool) → flags ≡ slice_set a.kept.generics n true
      → MarksMethods names program row.methods (record { kept = record { procedures = a.kept.procedures; generics = flags }; pending = a.pending }) b
      → Marks names program (GenericBrings names program (slice_get program.generics n)) a b × (is_marked b.kept.generics n ≡ true)
  generic_marked a b n row e h flags f x =
      let unmarked = not_true (is_marked a.kept.generics n) h in
      let set : (m : ℕ) → is_marked a.kept.generics m ≡ true → is_marked flags m ≡ true = λ m k. ap (λ fs. is_marked fs m) f ∙ set_stays a.kept.generics n m unmarked k in
      let itself : is_marked flags n ≡ true = ap (λ fs. is_marked fs n) f ∙ set_itself a.kept.generics n unmarked in (
        record {
          procedures = x.marks.procedures;
          generics = x.marks.generics ∙ ap length f ∙ length-set a.kept.generics n true;
          keeps = x.marks.keeps;
          keeps_generic = λ m k. x.marks.keeps_generic m (set m k);
          waits = x.marks.waits;
          fresh = λ p k. fresh_by p (x.marks.fresh p k);
          waiting = λ p k. waiting_by p (x.marks.waiting p k);
          methods = λ m r d k. methods_by m r d (x.marks.methods m r d k) (λ k'. set_fresh a.kept.generics n m unmarked (ap (λ fs. is_marked fs m) (sym f) ∙ k'));
        },
        x.marks.keeps_generic n itself,
      )
    where
      brings : (p : ℕ) → OneHas row.methods p → GenericBrings names program (slice_get program.generics n) p
      brings p k = subst (λ o. GenericBrings names program o p) (sym e) k

      fresh_by : (p : ℕ) → KeepsProcedure a.kept p ⊎ (Waits p b × OneHas row.methods p)
          → KeepsProcedure a.kept p ⊎ (Waits p b × GenericBrings names program (slice_get program.generics n) p)
      fresh_by p (inl k) = inl k
      fresh_by p (inr k) = inr (k.0, brings p k.1)

      waiting_by : (p : ℕ) → AnyOf (λ q. q ≡ p) a.pending ⊎ OneHas row.methods p → Waits p a ⊎ GenericBrings names program (slice_get program.generics n) p
      waiting_by p (inl k) = inl k
      waiting_by p (inr k) = inr (brings p k)

      methods_set : (m : ℕ) (r : GenericRow) → slice_get program.generics m ≡ Some r → (is_marked a.kept.generics m ≡ true) ⊎ (m ≡ n)
          → KeepsGeneric a.kept m ⊎ KeepsMethods names program b.kept r
      methods_set m r d (inl k) = inl k
      methods_set m r d (inr k) =
          let same : r ≡ row = one_item program.generics m n r row k d e in
          inr (subst (λ (q : GenericRow). KeepsMethods names program b.kept q) (sym same) x.each)

      methods_by : (m : ℕ) (r : GenericRow) → slice_get program.generics m ≡ Some r → (is_marked flags m ≡ true) ⊎ KeepsMethods names program b.kept r
          → ((is_marked flags m ≡ true) → (is_marked a.kept.generics m ≡ true) ⊎ (m ≡ n)) → KeepsGeneric a.kept m ⊎ KeepsMethods names program b.kept r
      methods_by m r d (inl k) g = methods_set m r d (g k)
      methods_by m r d (inr k) g = inr k

  -- one that is not there has no methods
  pub generic_alone : (a : Search) (n : ℕ) → length program.generics ≤ n → not (is_marked a.kept.generics n) ≡ true
      → (flags : List Bool) → flags ≡ slice_set a.kept.generics n true
      → Marks names program (GenericBrings names program (slice_get program.generics n)) a (record { kept = record { procedures = a.kept.procedures; generics = flags }; pending = a.pending })
      × (is_marked flags n ≡ true)
  generic_alone a n l h flags f =
      let unmarked = not_true (is_marked a.kept.generics n) h in (
        record {
          procedures = refl;
          generics = ap length f ∙ length-set a.kept.generics n true;
          keeps = λ p k. k;
          keeps_generic = λ m k. ap (λ fs. is_marked fs m) f ∙ set_stays a.kept.generics n m unmarked k;
          waits = λ p k. k;
          fresh = λ p k. inl k;
          waiting = λ p k. inl k;
          methods = λ m r d k. inl (old m r d (set_fresh a.kept.generics n m unmarked (ap (λ fs. is_marked fs m) (sym f) ∙ k)));
        },
        ap (λ fs. is_marked fs n) f ∙ set_itself a.kept.generics n unmarked,
      )
    where
      old : (m : ℕ) (r : GenericRow) → slice_get program.generics m ≡ Some r → (is_marked a.kept.generics m ≡ true) ⊎ (m ≡ n) → is_marked a.kept.generics m ≡ true
      old m r d (inl k) = k
      old m r d (inr k) = let inside = slice_get_within program.generics m r d in absurd (omega (arith, inside, l, k))

  not_false : (b : Bool) → not b ≡ false → b ≡ true
  not_false true h = refl
  not_false false h = absurd (cc)

  -- it was marked before
  pub generic_before : (a : Search) (n : ℕ) → not (is_marked a.kept.generics n) ≡ false
      → Marks names program (GenericBrings names program (slice_get program.generics n)) a a × (is_marked a.kept.generics n ≡ true)
  generic_before a n h = (marks_none (GenericBrings names program (slice_get program.generics n)) a, not_false (is_marked a.kept.generics n) h)

  pub marked_before : (a : Search) (p : ℕ) → not (is_marked a.kept.procedures p) ≡ false
      → Marks names program (λ q. p ≡ q) a a × (is_marked a.kept.procedures p ≡ true)
  marked_before a p h = (marks_none (λ q. p ≡ q) a, not_false (is_marked a.kept.procedures p) h)

  -- the function of a name: none, or one that calls something
  pub name_alone : (a : Search) (n : ℕ) → function_row names program.functions (text names n) ≡ None
      → Marks names program (NameBrings names program n) a a × KeepsNamed names program a.kept n
  name_alone a n e =
      subst (λ o. Marks names program (RowBrings names program o) a a × KeepsRow names program a.kept o) (sym e) (marks_none (RowBrings names program None) a, tt)

  pub named_so : (a b : Search) (n : ℕ) (f : FunctionRow) (done : Result (Unit {0}) NoMemory) → function_row names program.functions (text names n) ≡ Some f
      → OnOk done (Marks names program (CalleeBrings names program f.callee) a b × KeepsCallee b.kept f.callee)
      → OnOk done (Marks names program (NameBrings names program n) a b × KeepsNamed names program b.kept n)
  named_so a b n f done e h = subst (λ o. OnOk done (Marks names program (RowBrings names program o) a b × KeepsRow names program b.kept o)) (sym e) h

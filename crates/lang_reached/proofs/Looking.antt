-- The search as a whole: what is known at each time.
use Rattle.std.proofs.Common.{◌≡◌, ℕ, zero, suc, ◌+◌, ◌<◌, ◌≤◌, Bool, true, false, List, [], ◌∷◌, ◌++◌, length, refl, sym, ap, subst, ◌∙◌, arith, append_assoc, add-zero, Some, None, Option, take, ◌⊎◌, inl, inr, ⊎_elim}
use Rattle.std.proofs.lemmas.Bool.{cases_lt}
use Rattle.std.proofs.lemmas.Option.{slice_get_within}
use Rattle.std.proofs.lemmas.List.{append-nil}
use Rattle.std.specs.Prelude.{if◌then◌else◌, option_to_list, slice_get, slice_index_or}
use Rattle.base.specs.AllOf.{all_map, all_both}
use Rattle.lang_meaning.specs.declared.program.Procedure.{Procedure}
use Rattle.lang_meaning.specs.declared.program.GenericRow.{GenericRow}
use Rattle.lang_meaning.specs.declared.program.MethodRow.{MethodRow}
use Rattle.lang_meaning.specs.declared.program.ClassRow.{ClassRow}
use Rattle.lang_meaning.specs.declared.program.SlotRow.{SlotRow}
use Rattle.lang_meaning.specs.declared.program.ProgramRows.{ProgramRows}
use Rattle.lang_meaning.specs.Literals.{all_slots}
use Rattle.lang_meaning.specs.Form.{Form}
use Rattle.lang_meaning.specs.Reached.{initforms}
use Rattle.lang_rows.specs.Marked.{AreFlags}
use Rattle.lang_reached.specs.declared.kept.Kept.{Kept}
use Rattle.lang_reached.specs.declared.search.Search.{Search}
use Rattle.lang_reached.specs.LeftOut.{is_marked, emptied, procedures_left, KeepsProcedure, KeepsGeneric, KeepsMethods, KeepsForm, IsClosed}
use Rattle.lang_reached.specs.Mentioned.{AnyOf, MentionsInside, IsReached, by_body, by_slot, by_main}
use Rattle.lang_reached.specs.Search.{Waits, Marks, Stays, Takes, MarksForm, MarksBody, IsSearched, IsUnderWay, Ends, IsBegun, MarksAll, MarksForms, slots_bring}
use Rattle.lang_reached.proofs.Searching.{any_either, any_front, any_back, any_at, all_of, one_item, marks_none, marks_then}
use Rattle.lang_reached.proofs.Marking.{form_later, stays_of}

-- the last item of a list
pub last_apart : {X : Type 0} (xs : List X) (n : ℕ) (x : X) → length xs ≡ n + 1 → slice_get xs n ≡ Some x → xs ≡ take n xs ++ x ∷ []
last_apart [] n x l e = absurd (cc)
last_apart (y ∷ []) zero x l e = let same : y ≡ x = cc in ap (λ z. z ∷ []) same
last_apart (y ∷ z ∷ xs) zero x l e = absurd (omega (arith, l))
last_apart (y ∷ xs) (suc n) x l e = ap (λ zs. y ∷ zs) (last_apart xs n x (omega (arith, l)) e)

pub take_whole : {X : Type 0} (xs : List X) (n : ℕ) → length xs ≤ n → take n xs ≡ xs
take_whole [] zero h = refl
take_whole [] (suc n) h = refl
take_whole (x ∷ xs) zero h = absurd (omega (arith, h))
take_whole (x ∷ xs) (suc n) h = ap (λ ys. x ∷ ys) (take_whole xs n (omega (arith, h)))

-- what slots bring, and those of classes, one more

brings_append : (xs ys : List SlotRow) → slots_bring (xs ++ ys) ≡ slots_bring xs ++ slots_bring ys
brings_append [] ys = refl
brings_append (x ∷ xs) ys =
    ap (λ ps. option_to_list x.initform ++ ps) (brings_append xs ys) ∙ sym (append_assoc (option_to_list x.initform) (slots_bring xs) (slots_bring ys))

slot_brings : (slots : List SlotRow) (n : ℕ) (s : SlotRow) → slice_get slots n ≡ Some s
    → slots_bring (take (n + 1) slots) ≡ slots_bring (take n slots) ++ option_to_list s.initform
slot_brings [] n s e = absurd (cc)
slot_brings (x ∷ xs) zero s e = let same : x ≡ s = cc in append-nil (option_to_list x.initform) ∙ ap (λ (r : SlotRow). option_to_list r.initform) same
slot_brings (x ∷ xs) (suc n) s e =
    let same : suc n + 1 ≡ suc (n + 1) = omega arith in
    ap (λ m. slots_bring (take m (x ∷ xs))) same
    ∙ ap (λ ps. option_to_list x.initform ++ ps) (slot_brings xs n s e)
    ∙ sym (append_assoc (option_to_list x.initform) (slots_bring (take n xs)) (option_to_list s.initform))

class_brings : (classes : List ClassRow) (n : ℕ) (c : ClassRow) → slice_get classes n ≡ Some c
    → slots_bring (all_slots (take (n + 1) classes)) ≡ slots_bring (all_slots (take n classes)) ++ slots_bring c.slots
class_brings [] n c e = absurd (cc)
class_brings (x ∷ xs) zero c e = let same : x ≡ c = cc in ap slots_bring (append-nil x.slots) ∙ ap (λ (r : ClassRow). slots_bring r.slots) same
class_brings (x ∷ xs) (suc n) c e =
    let same : suc n + 1 ≡ suc (n + 1) = omega arith in
    ap (λ m. slots_bring (all_slots (take m (x ∷ xs)))) same
    ∙ brings_append x.slots (all_slots (take (n + 1) xs))
    ∙ ap (λ ps. slots_bring x.slots ++ ps) (class_brings xs n c e)
    ∙ sym (append_assoc (slots_bring x.slots) (slots_bring (all_slots (take n xs))) (slots_bring c.slots))
    ∙ ap (λ ps. ps ++ slots_bring c.slots) (sym (brings_append x.slots (all_slots (take n xs))))

module _ (names : List (List ℕ)) (program : ProgramRows) where
  methods_later : (a b : Search) → Stays a b → (row : GenericRow) → KeepsMethods names program a.kept row → KeepsMethods names program b.kept row
  methods_later a b s row h =
      all_map (λ (m : MethodRow). KeepsProcedure a.kept m.procedure) (λ (m : MethodRow). KeepsProcedure b.kept m.procedure) (λ m. s.keeps m.procedure) row.methods h

  -- what is known goes on being known where only what is reached is marked
  pub searched_then : (M : ℕ → Type 0) (a b : Search) → IsSearched names program a → Marks names program M a b → ((p : ℕ) → M p → IsReached names program p)
      → IsSearched names program b
  searched_then M a b x m r = record {
    procedures = m.procedures ∙ x.procedures;
    bodies = λ p q e k. bodies_by p q e (m.fresh p k);
    methods = λ g row e k. methods_by g row e (m.methods g row e k);
    marked = λ p l k. marked_by p l (m.fresh p k);
    waiting = λ p w. waiting_by p (m.waiting p w);
  }
    where
      old_body : (p : ℕ) (q : Procedure) → Waits p a ⊎ KeepsForm names program a.kept q.body → Waits p b ⊎ KeepsForm names program b.kept q.body
      old_body p q (inl w) = inl (m.waits p w)
      old_body p q (inr k) = inr (form_later names program a b (stays_of names program a b m) q.body k)

      bodies_by : (p : ℕ) (q : Procedure) → slice_get program.procedures p ≡ Some q → KeepsProcedure a.kept p ⊎ (Waits p b × M p)
          → Waits p b ⊎ KeepsForm names program b.kept q.body
      bodies_by p q e (inl k) = old_body p q (x.bodies p q e k)
      bodies_by p q e (inr k) = inl k.0

      methods_by : (g : ℕ) (row : GenericRow) → slice_get program.generics g ≡ Some row → KeepsGeneric a.kept g ⊎ KeepsMethods names program b.kept row
          → KeepsMethods names program b.kept row
      methods_by g row e (inl k) = methods_later a b (stays_of names program a b m) row (x.methods g row e k)
      methods_by g row e (inr k) = k

      marked_by : (p : ℕ) → p < length program.procedures → KeepsProcedure a.kept p ⊎ (Waits p b × M p) → IsReached names program p
      marked_by p l (inl k) = x.marked p l k
      marked_by p l (inr k) = r p k.1

      waiting_by : (p : ℕ) → Waits p a ⊎ M p → IsReached names program p
      waiting_by p (inl w) = x.waiting p w
      waiting_by p (inr k) = r p k

  -- the last procedure that waits was taken, and its body looked at
  pub looked : (a b c : Search) (p : ℕ) → IsSearched names program a → Takes a b (Some p) → MarksBody names program (slice_get program.procedures p) b c
      → IsUnderWay names program a c
  looked a b c p x t m = by (slice_get program.procedures p) refl m
    where
      -- p waited, so it is reached
      reached : IsReached names program p
      reached = x.waiting p (subst (AnyOf (λ q. q ≡ p)) (sym t.1) (last_waits b.pending))
        where
          last_waits : (qs : List ℕ) → AnyOf (λ q. q ≡ p) (qs ++ p ∷ [])
          last_waits [] = inl refl
          last_waits (q ∷ qs) = inr (last_waits qs)

      waits_still : (n : ℕ) → Waits n a → Waits n b ⊎ (p ≡ n)
      waits_still n w = one (any_either (λ q. q ≡ n) b.pending (p ∷ []) (subst (AnyOf (λ q. q ≡ n)) t.1 w))
        where
          one : AnyOf (λ q. q ≡ n) b.pending ⊎ AnyOf (λ q. q ≡ n) (p ∷ []) → Waits n b ⊎ (p ≡ n)
          one (inl k) = inl k
          one (inr (inl k)) = inr k
          one (inr (inr k)) = absurd k

      waited : (n : ℕ) → Waits n b → Waits n a
      waited n w = subst (AnyOf (λ q. q ≡ n)) (sym t.1) (any_front (λ q. q ≡ n) b.pending (p ∷ []) w)

      keeps_same : (n : ℕ) → KeepsProcedure a.kept n → KeepsProcedure b.kept n
      keeps_same n k = subst (λ (kept : Kept). KeepsProcedure kept n) (sym t.0) k

      generics_same : (n : ℕ) → KeepsGeneric a.kept n → KeepsGeneric b.kept n
      generics_same n k = subst (λ (kept : Kept). KeepsGeneric kept n) (sym t.0) k

      keeps_before : (n : ℕ) → KeepsProcedure b.kept n → KeepsProcedure a.kept n
      keeps_before n k = subst (λ (kept : Kept). KeepsProcedure kept n) t.0 k

      generics_before : (n : ℕ) → KeepsGeneric b.kept n → KeepsGeneric a.kept n
      generics_before n k = subst (λ (kept : Kept). KeepsGeneric kept n) t.0 k

      open_body : (n : ℕ) (q : Procedure) → Waits n a ⊎ KeepsForm names program a.kept q.body → (Waits n b ⊎ KeepsForm names program b.kept q.body) ⊎ (p ≡ n)
      open_body n q (inr k) = inl (inr (subst (λ (kept : Kept). KeepsForm names program kept q.body) (sym t.0) k))
      open_body n q (inl w) = one (waits_still n w)
        where
          one : Waits n b ⊎ (p ≡ n) → (Waits n b ⊎ KeepsForm names program b.kept q.body) ⊎ (p ≡ n)
          one (inl k) = inl (inl k)
          one (inr k) = inr k

      -- what is known where p is taken and not yet looked at
      bodies_open : (n : ℕ) (q : Procedure) → slice_get program.procedures n ≡ Some q → KeepsProcedure b.kept n
          → (Waits n b ⊎ KeepsForm names program b.kept q.body) ⊎ (p ≡ n)
      bodies_open n q e k = open_body n q (x.bodies n q e (keeps_before n k))

      methods_open : (g : ℕ) (row : GenericRow) → slice_get program.generics g ≡ Some row → KeepsGeneric b.kept g → KeepsMethods names program b.kept row
      methods_open g row e k = subst (λ (kept : Kept). KeepsMethods names program kept row) (sym t.0) (x.methods g row e (generics_before g k))

      many : length b.kept.procedures ≡ length program.procedures
      many = ap (λ (kept : Kept). length kept.procedures) t.0 ∙ x.procedures

      by : (o : Option Procedure) → slice_get program.procedures p ≡ o → MarksBody names program o b c → IsUnderWay names program a c
      by None e n = subst (λ s. IsUnderWay names program a s) (sym n) (record {
        searched = record {
          procedures = many;
          bodies = λ m r f k. there m r f (bodies_open m r f k);
          methods = methods_open;
          marked = λ m l k. x.marked m l (keeps_before m k);
          waiting = λ m w. x.waiting m (waited m w);
        };
        stays = record { keeps = keeps_same; keeps_generic = generics_same };
      })
        where
          there : (m : ℕ) (r : Procedure) → slice_get program.procedures m ≡ Some r → (Waits m b ⊎ KeepsForm names program b.kept r.body) ⊎ (p ≡ m)
              → Waits m b ⊎ KeepsForm names program b.kept r.body
          there m r f (inl k) = k
          there m r f (inr k) = absurd (cc (sym (ap (slice_get program.procedures) k) ∙ e, f))
      by (Some q) e n = record {
        searched = record {
          procedures = n.marks.procedures ∙ many;
          bodies = λ m r f k. fresh_by m r f (n.marks.fresh m k);
          methods = λ g row f k. methods_by g row f (n.marks.methods g row f k);
          marked = λ m l k. marked_by m l (n.marks.fresh m k);
          waiting = λ m w. waiting_by m (n.marks.waiting m w);
        };
        stays = record { keeps = λ m k. n.marks.keeps m (keeps_same m k); keeps_generic = λ m k. n.marks.keeps_generic m (generics_same m k) };
      }
        where
          later : Stays b c
          later = record { keeps = n.marks.keeps; keeps_generic = n.marks.keeps_generic }

          there : (m : ℕ) (r : Procedure) → slice_get program.procedures m ≡ Some r → (Waits m b ⊎ KeepsForm names program b.kept r.body) ⊎ (p ≡ m)
              → Waits m c ⊎ KeepsForm names program c.kept r.body
          there m r f (inl (inl w)) = inl (n.marks.waits m w)
          there m r f (inl (inr k)) = inr (form_later names program b c later r.body k)
          there m r f (inr k) =
              let same : q ≡ r = one_item program.procedures p m q r k e f in
              inr (subst (λ (s : Procedure). KeepsForm names program c.kept s.body) same n.keeps)

          fresh_by : (m : ℕ) (r : Procedure) → slice_get program.procedures m ≡ Some r → KeepsProcedure b.kept m ⊎ (Waits m c × MentionsInside names program q.body m)
              → Waits m c ⊎ KeepsForm names program c.kept r.body
          fresh_by m r f (inl k) = there m r f (bodies_open m r f k)
          fresh_by m r f (inr k) = inl k.0

          methods_by : (g : ℕ) (row : GenericRow) → slice_get program.generics g ≡ Some row → KeepsGeneric b.kept g ⊎ KeepsMethods names program c.kept row
              → KeepsMethods names program c.kept row
          methods_by g row f (inl k) = methods_later b c later row (methods_open g row f k)
          methods_by g row f (inr k) = k

          marked_by : (m : ℕ) → m < length program.procedures → KeepsProcedure b.kept m ⊎ (Waits m c × MentionsInside names program q.body m) → IsReached names program m
          marked_by m l (inl k) = x.marked m l (keeps_before m k)
          marked_by m l (inr k) = by_body p q m e reached k.1

          waiting_by : (m : ℕ) → Waits m b ⊎ MentionsInside names program q.body m → IsReached names program m
          waiting_by m (inl w) = x.waiting m (waited m w)
          waiting_by m (inr k) = by_body p q m e reached k

  -- steps one behind another, up to the end
  pub way_begins : (a : Search) → IsSearched names program a → IsUnderWay names program a a
  way_begins a x = record { searched = x; stays = record { keeps = λ p h. h; keeps_generic = λ g h. h } }

  pub way_goes_on : (a b c d : Search) (p : ℕ) → IsUnderWay names program a b → Takes b c (Some p) → MarksBody names program (slice_get program.procedures p) c d
      → IsUnderWay names program a d
  way_goes_on a b c d p x t m =
      let y = looked b c d p x.searched t m in
      record {
        searched = y.searched;
        stays = record { keeps = λ n k. y.stays.keeps n (x.stays.keeps n k); keeps_generic = λ n k. y.stays.keeps_generic n (x.stays.keeps_generic n k) };
      }

  pub way_ends : (a b c : Search) → IsUnderWay names program a b → Takes b c None → Ends names program a c
  way_ends a b c x t = subst (λ s. Ends names program a s) (sym t.0) (record { searched = x.searched; stays = x.stays; none = t.1 })

  -- before anything is marked
  pub searched_first : (a : Search) → IsBegun program a → IsSearched names program a
  searched_first a x = record {
    procedures = x.procedures;
    bodies = λ p q e k. let inside = slice_get_within program.procedures p q e in absurd (cc (x.none p inside, k));
    methods = λ g row e k. let inside = slice_get_within program.generics g row e in absurd (cc (x.no_generic g inside, k));
    marked = λ p l k. absurd (cc (x.none p l, k));
    waiting = λ p w. absurd (subst (AnyOf (λ q. q ≡ p)) x.pending w);
  }

  -- lists of procedures, one behind another
  pub marks_no : (a : Search) → MarksAll names program [] a a
  marks_no a = record { marks = marks_none names program (λ p. ⊥) a; keeps = tt }

  pub marks_both : (ps qs : List ℕ) (a b c : Search) → MarksAll names program ps a b → MarksAll names program qs b c → MarksAll names program (ps ++ qs) a c
  marks_both ps qs a b c x y = record {
    marks = marks_then names program (λ p. AnyOf (λ q. q ≡ p) ps) (λ p. AnyOf (λ q. q ≡ p) qs) (λ p. AnyOf (λ q. q ≡ p) (ps ++ qs)) a b c
        (λ p h. any_front (λ q. q ≡ p) ps qs h) (λ p h. any_back (λ q. q ≡ p) ps qs h) x.marks y.marks;
    keeps = all_both (KeepsProcedure c.kept) ps qs (all_map (KeepsProcedure b.kept) (KeepsProcedure c.kept) y.marks.keeps ps x.keeps) y.keeps;
  }

  pub marks_single : (p : ℕ) (a b : Search) → Marks names program (λ q. p ≡ q) a b × KeepsProcedure b.kept p → MarksAll names program (p ∷ []) a b
  marks_single p a b h = record {
    marks = marks_then names program (λ q. p ≡ q) (λ q. p ≡ q) (λ q. AnyOf (λ r. r ≡ q) (p ∷ [])) a b b (λ q e. inl e) (λ q e. inl e) h.0 (marks_none names program (λ q. p ≡ q) b);
    keeps = (h.1, tt);
  }

  pub slot_more : (slots : List SlotRow) (n : ℕ) (s : SlotRow) (a b c : Search) → slice_get slots n ≡ Some s
      → MarksAll names program (slots_bring (take n slots)) a b → MarksAll names program (option_to_list s.initform) b c
      → MarksAll names program (slots_bring (take (n + 1) slots)) a c
  slot_more slots n s a b c e x y =
      subst (λ ps. MarksAll names program ps a c) (sym (slot_brings slots n s e)) (marks_both (slots_bring (take n slots)) (option_to_list s.initform) a b c x y)

  pub slots_all : (slots : List SlotRow) (n : ℕ) (a b : Search) → length slots ≤ n → MarksAll names program (slots_bring (take n slots)) a b
      → MarksAll names program (slots_bring slots) a b
  slots_all slots n a b h x = subst (λ ss. MarksAll names program (slots_bring ss) a b) (take_whole slots n h) x

  pub class_more : (classes : List ClassRow) (n : ℕ) (k : ClassRow) (a b c : Search) → slice_get classes n ≡ Some k
      → MarksAll names program (slots_bring (all_slots (take n classes))) a b → MarksAll names program (slots_bring k.slots) b c
      → MarksAll names program (slots_bring (all_slots (take (n + 1) classes))) a c
  class_more classes n k a b c e x y =
      subst (λ ps. MarksAll names program ps a c) (sym (class_brings classes n k e))
      (marks_both (slots_bring (all_slots (take n classes))) (slots_bring k.slots) a b c x y)

  pub classes_all : (classes : List ClassRow) (n : ℕ) (a b : Search) → length classes ≤ n → MarksAll names program (slots_bring (all_slots (take n classes))) a b
      → MarksAll names program (slots_bring (all_slots classes)) a b
  classes_all classes n a b h x = subst (λ cs. MarksAll names program (slots_bring (all_slots cs)) a b) (take_whole classes n h) x

  -- main forms before one
  pub record MainsSome (fs : List Form) (n : ℕ) (a b : Search) : Type 0 where
    pub marks : Marks names program (λ p. AnyOf (λ f. MentionsInside names program f p) fs) a b
    pub each : (i : ℕ) (f : Form) → i < n → slice_get fs i ≡ Some f → KeepsForm names program b.kept f

  pub no_main : (fs : List Form) (a : Search) → MainsSome fs 0 a a
  no_main fs a = record { marks = marks_none names program (λ p. AnyOf (λ f. MentionsInside names program f p) fs) a; each = λ i f h e. absurd (omega (arith, h)) }

  pub main_more : (fs : List Form) (n : ℕ) (f : Form) (a b c : Search) → slice_get fs n ≡ Some f → MainsSome fs n a b → MarksForm names program f b c
      → MainsSome fs (n + 1) a c
  main_more fs n f a b c e x y = record {
    marks = marks_then names program (λ p. AnyOf (λ g. MentionsInside names program g p) fs) (MentionsInside names program f) (λ p. AnyOf (λ g. MentionsInside names program g p) fs)
        a b c (λ p h. h) (λ p h. any_at (λ g. MentionsInside names program g p) fs n f e h) x.marks y.marks;
    each = λ i g h d.
        ⊎_elim
        (λ (k : i < n). form_later names program b c (stays_of names program b c y.marks) g (x.each i g k d))
        (λ (k : n ≤ i).
        let same : i ≡ n = omega (arith, h, k) in
        let one : f ≡ g = one_item fs n i f g (sym same) e d in
        subst (KeepsForm names program c.kept) one y.keeps)
        (cases_lt i n);
  }

  pub mains_all : (fs : List Form) (n : ℕ) (a b : Search) → length fs ≤ n → MainsSome fs n a b → MarksForms names program fs a b
  mains_all fs n a b l x = record {
    marks = x.marks;
    keeps = all_of (KeepsForm names program b.kept) fs (λ i f e. let inside = slice_get_within fs i f e in x.each i f (omega (arith, inside, l)) e);
  }

  -- the whole search
  pub closed_at_end : (a b c d : Search) → IsBegun program a → MarksAll names program (initforms program) a b → MarksForms names program program.main b c
      → Ends names program c d → IsClosed names program d.kept
  closed_at_end a b c d x y z w = record {
    main = all_map (KeepsForm names program c.kept) (KeepsForm names program d.kept) (form_later names program c d w.stays) program.main z.keeps;
    initforms = all_map (KeepsProcedure c.kept) (KeepsProcedure d.kept) w.stays.keeps (initforms program)
        (all_map (KeepsProcedure b.kept) (KeepsProcedure c.kept) z.marks.keeps (initforms program) y.keeps);
    bodies = λ p q e k. none_waits p q.body (w.searched.bodies p q e k);
    methods = w.searched.methods;
  }
    where
      none_waits : (p : ℕ) (f : Form) → Waits p d ⊎ KeepsForm names program d.kept f → KeepsForm names program d.kept f
      none_waits p f (inl h) = absurd (subst (AnyOf (λ q. q ≡ p)) w.none h)
      none_waits p f (inr h) = h

  pub searched_at_last : (a b c : Search) → IsBegun program a → MarksAll names program (initforms program) a b → MarksForms names program program.main b c
      → IsSearched names program c
  searched_at_last a b c x y z =
      searched_then (λ p. AnyOf (λ f. MentionsInside names program f p) program.main) b c
      (searched_then (λ p. AnyOf (λ q. q ≡ p) (initforms program)) a b (searched_first a x) y.marks (λ p h. by_slot p h))
      z.marks (λ p h. by_main p h)

  -- no flag is set
  pub begun_so : (search : Search) → AreFlags (length program.procedures) [] search.kept.procedures → AreFlags (length program.generics) [] search.kept.generics
      → search.pending ≡ [] → IsBegun program search
  begun_so search f h e = record {
    procedures = f.size;
    none = λ p l. unset search.kept.procedures p (omega (arith, l, f.size)) ∙ f.each p l;
    no_generic = λ g l. unset search.kept.generics g (omega (arith, l, h.size)) ∙ h.each g l;
    pending = e;
  }
    where
      unset : (flags : List Bool) (n : ℕ) → n < length flags → slice_index_or flags n true ≡ slice_index_or flags n false
      unset [] n l = absurd (omega (arith, l))
      unset (b ∷ bs) zero l = refl
      unset (b ∷ bs) (suc n) l = unset bs n (omega (arith, l))

-- the procedures up to one more
pub left_more : (marks : List Bool) (n : ℕ) (qs : List Procedure) (i : ℕ) (q : Procedure) → slice_get qs i ≡ Some q
    → procedures_left marks n (take (i + 1) qs) ≡ procedures_left marks n (take i qs) ++ (if is_marked marks (n + i) then q else emptied q) ∷ []
left_more marks n [] i q e = absurd (cc)
left_more marks n (x ∷ xs) zero q e =
    let same : x ≡ q = cc in
    ap (λ (r : Procedure). (if is_marked marks n then r else emptied r) ∷ []) same
    ∙ ap (λ m. (if is_marked marks m then q else emptied q) ∷ []) (sym (add-zero n))
left_more marks n (x ∷ xs) (suc i) q e =
    let same : suc i + 1 ≡ suc (i + 1) = omega arith in
    let next : n + 1 + i ≡ n + suc i = omega arith in
    ap (λ m. procedures_left marks n (take m (x ∷ xs))) same
    ∙ ap (λ rs. (if is_marked marks n then x else emptied x) ∷ rs) (left_more marks (n + 1) xs i q e)
    ∙ ap (λ m. (if is_marked marks n then x else emptied x) ∷ (procedures_left marks (n + 1) (take i xs) ++ (if is_marked marks m then q else emptied q) ∷ [])) next

pub left_next : (marks : List Bool) (qs : List Procedure) (i : ℕ) (q : Procedure) (left new : List Procedure) (made : Procedure) (b : Bool) → slice_get qs i ≡ Some q
    → left ≡ procedures_left marks 0 (take i qs) → b ≡ is_marked marks i → made ≡ (if b then q else emptied q) → new ≡ left ++ made ∷ []
    → new ≡ procedures_left marks 0 (take (i + 1) qs)
left_next marks qs i q left new made b e f h m g =
    let zero_first : i ≡ 0 + i = omega arith in
    g ∙ ap (λ ps. ps ++ made ∷ []) f
    ∙ ap (λ p. procedures_left marks 0 (take i qs) ++ p ∷ []) (m ∙ ap (λ c. if c then q else emptied q) (h ∙ ap (is_marked marks) zero_first))
    ∙ sym (left_more marks 0 qs i q e)

pub left_all : (marks : List Bool) (qs : List Procedure) (i : ℕ) (left : List Procedure) → length qs ≤ i → left ≡ procedures_left marks 0 (take i qs)
    → left ≡ procedures_left marks 0 qs
left_all marks qs i left h f = f ∙ ap (procedures_left marks 0) (take_whole qs i h)

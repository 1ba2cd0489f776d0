-- `mapcar` of one list, by the loop that calls the function with each item.
use Rattle.std.proofs.Common.{◌≡◌, ◌≤◌, ◌<◌, ℕ, suc, ◌+◌, true, false, List, [], ◌∷◌, ◌++◌, refl, sym, ap, subst, ◌∙◌, inl, inr, Option, Some, None, length, length-append, slice_get, ◌⊎◌, ⊎_elim, zero, le_trans, le_refl, arith}
use Rattle.std.proofs.lemmas.Bool.Decides.{nat_tests}
use Rattle.base.specs.Data as datum
use Rattle.base.specs.declared.datum.Name.{Name}
use Rattle.lang_meaning.specs.Form.{no_form, local, call}
use Rattle.lang_meaning.specs.Values.{Value, nil, object, is_true, truth, same}
use Rattle.lang_meaning.specs.Objects.{Object, cons}
use Rattle.lang_meaning.specs.State.{State, DynamicContext}
use Rattle.lang_meaning.specs.Lookup.{under_number}
use Rattle.lang_meaning.specs.Captured.{has_box}
use Rattle.lang_meaning.specs.Signals.{signal, apply_procedure, apply_value}
use Rattle.lang_library_laws.specs.Lists.{IsListFrom, IsProperList, HasConses, IsNoneOf, AreFrom, ChangesOnly, OfEach, OfBoth}
use Rattle.lang_library_laws.specs.Applications.{IsExtended, Gives, GivesKeeping, at_level, HasLiteral, IsNamed}
use Rattle.lang_library_laws.specs.ListBodies.{one, not_null, turn_onto, nreverse_function}
use Rattle.lang_library_laws.specs.SequenceBodies.{MapcarNumbers, map_turn, map_body, mapcar_form}
use Rattle.lang_library_laws.specs.Laws.{LawOfMapcar}
use Rattle.lang_library_laws.proofs.Frames.{nothing_added, added_more, put_behind, get_kept, get_last, Places, Setting, Comes, a_form, in_order, weaker, at_frame}
use Rattle.lang_library_laws.proofs.Evaluates.{comes_local, comes_set, comes_literal, comes_sequence, then_nothing, first_then, comes_clauses, clause_taken, body_form, no_arguments_left, argument_and, no_bindings_left, value_and, comes_let}
use Rattle.lang_library_laws.proofs.OfPrimitives.{comes_car, comes_cdr, comes_null, comes_cons}
use Rattle.lang_library_laws.proofs.Loops.{Turns, Stops, loops}
use Rattle.lang_library_laws.proofs.Applies.{setting, applies_to, called, value_called, comes_call, comes_call_value}
use Rattle.lang_library_laws.proofs.Falling.{turned_onto}
use Rattle.lang_library_laws.proofs.Conses.{Conses, items_in, items_turned, conses_list, from_turned, AreBeyond, none_beyond, conses_apart}
use Rattle.lang_library_laws.proofs.NReverse.{nreverse_gives}
use Rattle.lang_library_laws.proofs.Assured.{none_of, class_kept, instance_kept, comes_assured}
use Rattle.lang_library_laws.proofs.ListsKept.{cell_later, no_shorter, here, elsewhere}

-- what holds of both holds of both turned
both_turned : {X Y : Type 0} (Fits : X → Y → Type 0) (xs xs' : List X) (ys ys' : List Y) → OfBoth Fits xs ys → OfBoth Fits xs' ys'
    → OfBoth Fits (turned_onto xs xs') (turned_onto ys ys')
both_turned Fits [] xs' [] ys' h g = g
both_turned Fits [] xs' (y ∷ ys) ys' h g = absurd h
both_turned Fits (x ∷ xs) xs' [] ys' h g = absurd h
both_turned Fits (x ∷ xs) xs' (y ∷ ys) ys' h g = both_turned Fits xs (x ∷ xs') ys (y ∷ ys') h.1 (h.0, g)

both_more : {X Y : Type 0} (Fits More : X → Y → Type 0) → ((x : X) (y : Y) → Fits x y → More x y) → (xs : List X) (ys : List Y) → OfBoth Fits xs ys → OfBoth More xs ys
both_more Fits More w [] [] h = tt
both_more Fits More w [] (y ∷ ys) h = absurd h
both_more Fits More w (x ∷ xs) [] h = absurd h
both_more Fits More w (x ∷ xs) (y ∷ ys) h = (w x y h.0, both_more Fits More w xs ys h.1)

-- conses with numbers below another one
abbrev AreBelow : (above : ℕ) → Conses → Type 0
AreBelow above [] = Unit {0}
AreBelow above (c ∷ cs) = (c.0 < above) × AreBelow above cs

higher : (above more : ℕ) → above ≤ more → (cs : Conses) → AreBelow above cs → AreBelow more cs
higher above more h [] b = tt
higher above more h (c ∷ cs) b = (le_trans b.0 h, higher above more h cs b.1)

below_beyond : (first above : ℕ) (cs : Conses) → AreBelow first cs → AreBeyond first above cs
below_beyond first above [] b = tt
below_beyond first above (c ∷ cs) b = (inl b.0, below_beyond first above cs b.1)

none_before : (i first : ℕ) → i < first → (cs : Conses) → AreFrom first cs → IsNoneOf i cs
none_before i first h [] f = tt
none_before i first h (c ∷ cs) f = (λ e. absurd (omega (arith, e, h, f.0)), none_before i first h cs f.1)

conses_kept : {store now : List Object} → IsExtended Object store now → (v : Value) (cs : Conses) → HasConses store v cs → HasConses now v cs
conses_kept {store} {now} e v [] h = h
conses_kept {store} {now} e v (c ∷ cs) h = (h.0, h.1, get_kept e c.0 _ h.2, conses_kept e h.0 cs h.3)

none_within : (os : List Object) (i : ℕ) → i < length os → slice_get os i ≡ None → ⊥
none_within [] i h is = absurd (omega (arith, h))
none_within (o ∷ os) zero h is = absurd (cc is)
none_within (o ∷ os) (suc i) h is = none_within os i (omega (arith, h)) is

-- an object that is there in an extended store is as it was
same_there : {store now : List Object} → IsExtended Object store now → (i : ℕ) → i < length store → slice_get now i ≡ slice_get store i
same_there {store} {now} e i h = by (slice_get store i) refl
  where
    by : (o : Option Object) → slice_get store i ≡ o → slice_get now i ≡ slice_get store i
    by (Some o) is = get_kept e i o is ∙ sym is
    by None is = absurd (none_within store i h is)

-- what fits goes by the objects that were there at first and by those that a call made
abbrev Stay : (first : ℕ) → (ℕ → Value → Value → List Object → Type 0) → Type 0
Stay first Fits =
    (from : ℕ) (x y : Value) (made later : List Object) → Fits from x y made
    → ((i : ℕ) → (i < first) ⊎ ((from ≤ i) × (i < length made)) → slice_get later i ≡ slice_get made i) → Fits from x y later

module _ (s : Setting) (v : ℕ) (function tail assured : Value) (items : List Value) (Fits : ℕ → Value → Value → List Object → Type 0) (enough : ℕ)
    (stays : Stay (length s.kept) Fits) where
  abbrev outer : Places
  outer = (v, 0) ∷ (v + 1, 1) ∷ (v + 2, 2) ∷ []

  abbrev vars : Places
  vars = (v + 4, 4) ∷ outer

  at_function : under_number v vars ≡ Some 0
  at_function = elsewhere v (v + 4) 4 outer (grind (arith, nat_tests)) (here v 0 ((v + 1, 1) ∷ (v + 2, 2) ∷ []))

  at_list : under_number (v + 1) vars ≡ Some 1
  at_list =
      elsewhere (v + 1) (v + 4) 4 outer (grind (arith, nat_tests))
      (elsewhere (v + 1) v 0 ((v + 1, 1) ∷ (v + 2, 2) ∷ []) (grind (arith, nat_tests)) (here (v + 1) 1 ((v + 2, 2) ∷ [])))

  at_tail : under_number (v + 2) vars ≡ Some 2
  at_tail =
      elsewhere (v + 2) (v + 4) 4 outer (grind (arith, nat_tests))
      (elsewhere (v + 2) v 0 ((v + 1, 1) ∷ (v + 2, 2) ∷ []) (grind (arith, nat_tests))
      (elsewhere (v + 2) (v + 1) 1 ((v + 2, 2) ∷ []) (grind (arith, nat_tests)) (here (v + 2) 2 [])))

  at_values : under_number (v + 4) vars ≡ Some 4
  at_values = here (v + 4) 4 outer

  -- the function has values for the items
  abbrev pub HasValue : Value → Type 0
  HasValue x =
      (levels : ℕ) (within : DynamicContext) (y : State) → IsExtended Object s.kept y.store
      → Gives s.limit levels enough y (λ w store. Fits (length y.store) x w store)
      (apply_value (at_level s.names s.program s.limit levels) (signal (at_level s.names s.program s.limit levels)) function (x ∷ []) within y)

  -- a value fitted behind its call, and no cons that was made since stands among what the call made
  pub record Fitted (cs : Conses) (store : List Object) (x w : Value) : Type 0 where
    pub from : ℕ
    pub made : List Object
    pub fits : Fits from x w made
    pub grown : IsExtended Object made store
    pub first : length s.kept ≤ length made
    pub apart : AreBeyond from (length made) cs

  later_fitted : {cs : Conses} {store now : List Object} (c : ℕ × Value) → IsExtended Object store now → length store ≤ c.0 → (x w : Value)
      → Fitted cs store x w → Fitted (c ∷ cs) now x w
  later_fitted {cs} {store} {now} c e b x w h = record {
    from = h.from;
    made = h.made;
    fits = h.fits;
    grown = added_more h.grown e;
    first = h.first;
    apart = (inr (le_trans (no_shorter h.grown) b), h.apart);
  }

  -- where only the conses are changed it fits still
  fits_still : (cs : Conses) (store after : List Object) → AreFrom (length s.kept) cs → ChangesOnly cs store after → (x w : Value)
      → Fitted cs store x w → (from : ℕ) × Fits from x w after
  fits_still cs store after f c x w h = (
    h.from,
    stays h.from x w h.made after h.fits (λ i inside.
        c i (⊎_elim (λ old. none_before i (length s.kept) old cs f) (λ new. none_beyond i h.from (length h.made) new.0 new.1 cs h.apart) inside)
        ∙ same_there h.grown i (⊎_elim (λ old. le_trans old h.first) (λ new. new.1) inside)),
  )

  -- before each turn there are values that fit those that are passed
  pub record Mapped (left : List Value) (frame : List Value) (store : List Object) : Type 0 where
    pub list : Value
    pub values : Value
    pub others : List Value
    pub passed : List Value
    pub done : Conses
    pub frame_is : frame ≡ function ∷ list ∷ tail ∷ assured ∷ values ∷ others
    pub in_front : IsProperList s.kept list left
    pub calls : OfEach HasValue left
    pub behind : HasConses store values done
    pub new : AreFrom (length s.kept) done
    pub below : AreBelow (length store) done
    pub kept : IsExtended Object s.kept store
    pub fit : OfBoth (Fitted done store) passed (items_in done)
    pub all_is : turned_onto passed left ≡ items
    pub size_is : length done + length left ≡ length items

  turn : {k : ℕ} (x : Value) (xs : List Value) (frame : List Value) (store : List Object) → (k < enough → s.short) → (h : Mapped (x ∷ xs) frame store)
      → Comes s vars (a_form k (map_turn v)) (function ∷ h.list ∷ tail ∷ assured ∷ h.values ∷ h.others) store (λ ignored fr st. Mapped xs fr st)
  turn {k} x xs frame store short h =
      let FitsIt : Value → List Object → Type 0 = λ w st. Fits (length store) x w st in
      comes_sequence (first_then (comes_set (v + 4) 4 at_values (comes_cons (comes_call_value (argument_and (comes_local v 0 at_function
      (argument_and (comes_car (comes_local (v + 1) 1 at_list (
        cell_later h.kept 0 h.list x xs h.in_front,
        no_arguments_left (value_called FitsIt enough short store h.kept
            (λ w more st e fits.
            let made : Object = cons w h.values in
            let now : List Object = st ++ made ∷ [] in
            let grown : IsExtended Object st now = put_behind st (made ∷ []) in
            let later : IsExtended Object s.kept now = added_more (added_more h.kept e) grown in
            let bigger : length st < length now = subst (λ n. length st < n) (sym (length-append st (made ∷ []))) (omega arith) in
            comes_local (v + 4) 4 at_values
            (first_then (comes_set (v + 1) 1 at_list (comes_cdr (comes_local (v + 1) 1 at_list (
              cell_later later 0 h.list x xs h.in_front,
              then_nothing (record {
                list = h.in_front.1;
                values = object (length st);
                others = h.others ++ more;
                passed = x ∷ h.passed;
                done = (length st, w) ∷ h.done;
                frame_is = refl;
                in_front = h.in_front.5;
                calls = h.calls.1;
                behind = (h.values, refl, get_last st made, conses_kept (added_more e grown) h.values h.done h.behind);
                new = (no_shorter (added_more h.kept e), h.new);
                below = (bigger, higher (length store) (length now) (no_shorter (added_more e grown)) h.done h.below);
                kept = later;
                fit = (
                  record {
                    from = length store;
                    made = st;
                    fits = fits;
                    grown = grown;
                    first = no_shorter (added_more h.kept e);
                    apart = (inr (le_refl (length st)), below_beyond (length store) (length st) h.done h.below);
                  },
                  both_more (Fitted h.done store) (Fitted ((length st, w) ∷ h.done) now) (later_fitted (length st, w) (added_more e grown) (no_shorter e))
                      h.passed (items_in h.done) h.fit,
                );
                all_is = h.all_is;
                size_is = omega (arith, h.size_is);
              }),
            ))))))
            function (x ∷ []) (λ y g within.
            subst (λ os. GivesKeeping os s.limit k enough y FitsIt
            (apply_value (at_level s.names s.program s.limit k) (signal (at_level s.names s.program s.limit k)) function (x ∷ []) within y)) g.objects_are
            (subst (λ os. Gives s.limit k enough y (λ w st. Fits (length os) x w st)
            (apply_value (at_level s.names s.program s.limit k) (signal (at_level s.names s.program s.limit k)) function (x ∷ []) within y)) g.objects_are
            (h.calls.0 k within y (subst (λ os. IsExtended Object s.kept os) (sym g.objects_are) h.kept))))),
      ))))))))))

  module _ (Q : Value → List Value → List Object → Type 0) (ends : (frame : List Value) (store : List Object) → Mapped [] frame store → Q nil frame store) where
    turns : Turns s vars (not_null (local (v + 1))) (map_turn v) Value enough Mapped Q
    turns k x xs frame store short h =
        at_frame h.frame_is (comes_null (comes_null (comes_local (v + 1) 1 at_list (inl (
          ap (λ u. is_true (truth (same (truth (same u nil)) nil))) h.in_front.2,
          turn x xs frame store short h,
        )))))

    stops : Stops s vars (not_null (local (v + 1))) (map_turn v) Value enough Mapped Q
    stops k frame store short h =
        at_frame h.frame_is (comes_null (comes_null (comes_local (v + 1) 1 at_list (
          ap (λ u. is_true (truth (same (truth (same u nil)) nil))) h.in_front,
          subst (λ fr. Q nil fr store) h.frame_is (ends frame store h),
        ))))

  -- the values in their order
  abbrev pub AreValues : Value → List Object → Type 0
  AreValues w store =
      (values : List Value) × IsListFrom (length s.kept) store w values × OfBoth (λ x y. (from : ℕ) × Fits from x y store) items values

  module _ (n : MapcarNumbers) (nreverse_name turn_name : Option Name) (nreverse_v turn_v turn_number no_items : ℕ)
      (turns_onto : IsNamed s.names s.program turn_number (turn_onto turn_name turn_v)) (is_nil : HasLiteral s.program no_items datum.nil)
      (turns_back : IsNamed s.names s.program n.nreverse (nreverse_function nreverse_name nreverse_v turn_number no_items)) (is_nothing : tail ≡ nil) where
    -- behind the loop
    ends : {k : ℕ} (frame : List Value) (store : List Object) → (k < length items + enough + 2 → s.short) → Mapped [] frame store
        → Comes s vars (a_form k (call n.nreverse (one (local (v + 4))))) frame store (λ w fr st. AreValues w st)
    ends {k} frame store short h =
        let AreTurned : Value → List Object → Type 0 = λ w st. HasConses st w (turned_onto h.done []) × ChangesOnly h.done store st in
        let values : List Value = turned_onto (items_in h.done) [] in
        let is : items_in (turned_onto h.done []) ≡ values = items_turned h.done [] in
        at_frame h.frame_is (comes_call (argument_and (comes_local (v + 4) 4 at_values (no_arguments_left
        (called AreTurned (suc (suc (length h.done))) (λ g. short (omega (arith, g, h.size_is))) s.kept (nothing_added s.kept)
        (λ w more st e g. (
          values,
          subst (λ us. IsListFrom (length s.kept) st w us) is
              (conses_list st (length s.kept) w (turned_onto h.done []) (from_turned (length s.kept) h.done [] h.new tt) g.0),
          subst (λ xs. OfBoth (λ x y. (from : ℕ) × Fits from x y st) xs values) h.all_is
              (both_turned (λ x y. (from : ℕ) × Fits from x y st) h.passed [] (items_in h.done) []
              (both_more (Fitted h.done store) (λ x y. (from : ℕ) × Fits from x y st) (fits_still h.done store st h.new g.1) h.passed (items_in h.done) h.fit) tt),
        ))
        n.nreverse (nreverse_function nreverse_name nreverse_v turn_number no_items) turns_back (h.values ∷ []) (λ y g wrong around.
        nreverse_gives s.names s.program s.limit y nreverse_name turn_name nreverse_v turn_v turn_number no_items turns_back.number turns_onto is_nil turns_back.there
        store g.objects_are s.kept h.kept h.done h.values h.behind (conses_apart store h.values h.done h.behind) h.new k wrong around))))))

    pub maps : (k : ℕ) (list : Value) (store : List Object) → (k < length items + enough + 2 → s.short) → IsExtended Object s.kept store
        → IsProperList s.kept list items → OfEach HasValue items
        → Comes s vars (a_form k (map_body v n)) (function ∷ list ∷ tail ∷ assured ∷ nil ∷ []) store (λ w fr st. AreValues w st)
    maps k list store short e l calls =
        let Q : Value → List Value → List Object → Type 0 = λ u fr st. Comes s vars (in_order k u no_form) fr st
        (λ u fr st. Comes s vars (in_order k u (one (call n.nreverse (one (local (v + 4)))))) fr st (λ w fr st. AreValues w st)) in
        comes_sequence (first_then (comes_clauses (clause_taken (comes_null (comes_local (v + 2) 2 at_tail (
          ap (λ u. is_true (truth (same u nil))) is_nothing,
          body_form (comes_sequence (first_then (loops s vars (not_null (local (v + 1))) (map_turn v) Value enough Mapped Q
              (turns Q (λ frame store h. then_nothing (first_then (weaker (ends frame store short h) (λ w fr st g. then_nothing g)))))
              (stops Q (λ frame store h. then_nothing (first_then (weaker (ends frame store short h) (λ w fr st g. then_nothing g)))))
              items k (function ∷ list ∷ tail ∷ assured ∷ nil ∷ []) store (λ g. short (omega (arith, g)))
              (record {
                list = list;
                values = nil;
                others = [];
                passed = [];
                done = [];
                frame_is = refl;
                in_front = l;
                calls = calls;
                behind = refl;
                new = tt;
                below = tt;
                kept = e;
                fit = tt;
                all_is = refl;
                size_is = omega arith;
              })))),
        ))))))

no_boxes : (v : ℕ) (n : MapcarNumbers) (u : ℕ) → has_box u (mapcar_form v n) ≡ false
no_boxes v n u = simp none_of

no_inner_boxes : (v : ℕ) (n : MapcarNumbers) (u : ℕ) → has_box u (map_body v n) ≡ false
no_inner_boxes v n u = simp none_of

pub law_of_mapcar : LawOfMapcar
law_of_mapcar names program name nreverse_name turn_name v nreverse_v turn_v n turn no_items number turns_onto is_nil turns_back is_none there
    limit k wrong around z function list items class has instance l fits stays needed calls =
    let Fits : ℕ → Value → Value → List Object → Type 0 = λ from x y store. fits from x y store ≡ true in
    let IsMap : Value → List Object → Type 0 = λ w store. (values : List Value) × IsListFrom (length z.store) store w values × OfBoth (λ x y. (from : ℕ) × Fits from x y store) items values in
    let enough : suc (length items + needed + 2) ≡ length items + needed + 3 = omega arith in
    subst (λ m. Gives limit k m z IsMap (apply_procedure (at_level names program limit k) wrong number None (function ∷ list ∷ []) around z)) enough
    (applies_to names program limit z z.store (length items + needed + 2) number name (v ∷ (v + 1) ∷ []) (Some (v + 2)) (mapcar_form v n)
    (function ∷ list ∷ []) IsMap (nothing_added z.store) there (no_boxes v n) refl
    (λ levels ws now g.
    let s : Setting = setting names program limit z z.store (suc levels) (suc (length items + needed + 2)) in
    let tail : Value = g.0 in
    at_frame g.1 (comes_sequence (first_then (comes_assured v 0 (v + 3) n.function n.domain_error class function (here v 0 ((v + 1, 1) ∷ (v + 2, 2) ∷ [])) refl
    (class_kept g.3 has) (instance_kept program class g.3 function instance)
    (first_then (comes_let (value_and (comes_literal n.no_values (datum.item is_none.0 datum.nil) nil is_none.1 refl
    (no_bindings_left (no_inner_boxes v n) (weaker
    (maps s v function tail function items Fits needed stays n nreverse_name turn_name nreverse_v turn_v turn no_items turns_onto is_nil turns_back g.2
    levels list now (λ few. omega (arith, few)) g.3 l calls)
    (λ w fr st r. then_nothing r)))))))))))
    k wrong around)

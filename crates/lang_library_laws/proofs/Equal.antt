-- `equal`: by induction on the structure, along the second parts of pairs by the loop, and along rows by the loop of vectors.
use Rattle.std.proofs.Common.{◌≡◌, ◌≤◌, ◌<◌, ℕ, zero, suc, ◌+◌, Bool, true, false, ◌&&◌, List, [], ◌∷◌, ◌++◌, pos, refl, sym, ap, subst, ◌∙◌, ◌⊎◌, inl, inr, Option, Some, None, length, slice_index_or, arith}
use Rattle.std.specs.Prelude.{⊤}
use Rattle.std.specs.Str.{bytes_eq}
use Rattle.base.specs.Data as datum
use Rattle.base.specs.declared.datum.Name.{Name}
use Rattle.lang_meaning.specs.declared.program.ProgramRows.{ProgramRows}
use Rattle.lang_meaning.specs.declared.primitive.Primitive.{Primitive}
use Rattle.lang_meaning.specs.declared.primitive.Primitive.TheVariants.{IsCons, IsString, IsVector, VectorLength}
use Rattle.lang_meaning.specs.Form.{Form, sequence, while_form}
use Rattle.lang_meaning.specs.Values.{Value, nil, integer, symbol, truth as truth_of, is_true, same}
use Rattle.lang_meaning.specs.Objects.{Object, vector}
use Rattle.lang_meaning.specs.State.{State, DynamicContext, Limit}
use Rattle.lang_meaning.specs.Literals.{symbol_of}
use Rattle.lang_meaning.specs.Captured.{has_box}
use Rattle.lang_meaning.specs.Signals.{Signals, apply_procedure}
use Rattle.lang_library_laws.specs.Structures.{Structure, Structures, atom, pair, text, row, no_structure, structure_and, object_in, StandsFor, StandForEach, alike, alike_each, count_each, depth, depth_of_each}
use Rattle.lang_library_laws.specs.Applications.{GivesKeeping, Gives, IsExtended, HasLiteral, HasTruth, IsNamed, at_level}
use Rattle.lang_library_laws.specs.ListBodies.{one}
use Rattle.lang_library_laws.specs.EqualBodies.{compare, string_equal, equal_element, equal_vectors, of_first, of_second, of_both, equal_test, equal_turn, equal_end, equal_function}
use Rattle.lang_library_laws.specs.Laws.{LawOfEqual}
use Rattle.lang_library_laws.proofs.Frames.{nothing_added, get_kept, Setting, Comes, a_form, one_below, weaker, at_frame}
use Rattle.lang_library_laws.proofs.Evaluates.{Cell, comes_local, comes_set, comes_literal, comes_sequence, then_nothing, first_then, comes_clauses, clause_taken, clause_passed, no_clause_left, body_form, while_runs, no_arguments_left, argument_and, below_one, none_to_go_below}
use Rattle.lang_library_laws.proofs.OfPrimitives.{comes_car, comes_cdr, comes_consp, comes_stringp, comes_vectorp, comes_same, comes_vector_length, comes_vector_ref}
use Rattle.lang_library_laws.proofs.Applies.{setting, applies, called, comes_call}
use Rattle.lang_library_laws.proofs.Structures.{stands_kept, is_pair, is_text, is_row, Kinds, kinds, others_differ}
use Rattle.lang_library_laws.proofs.Along.{all_true, arguments, at_first, at_second, along_first, along_second, along_index, frame_at, Tests, compare_comes}
use Rattle.lang_library_laws.proofs.Strings.{string_equal_gives}

-- whether the structures at each place of the first row are alike
abbrev alike_list : Structures → Structures → List Bool
alike_list no_structure rs = []
alike_list (structure_and t ts) no_structure = false ∷ alike_list ts no_structure
alike_list (structure_and t ts) (structure_and r rs) = alike t r ∷ alike_list ts rs

alike_length : (ts rs : Structures) → length (alike_list ts rs) ≡ count_each ts
alike_length no_structure rs = refl
alike_length (structure_and t ts) no_structure = let others : length (alike_list ts no_structure) ≡ count_each ts = alike_length ts no_structure in omega (arith, others)
alike_length (structure_and t ts) (structure_and r rs) = let others : length (alike_list ts rs) ≡ count_each ts = alike_length ts rs in omega (arith, others)

alike_all : (ts rs : Structures) → count_each ts ≡ count_each rs → all_true (alike_list ts rs) ≡ alike_each ts rs
alike_all no_structure no_structure h = refl
alike_all no_structure (structure_and r rs) h = absurd (omega (arith, h))
alike_all (structure_and t ts) no_structure h = absurd (omega (arith, h))
alike_all (structure_and t ts) (structure_and r rs) h = ap (λ b. alike t r && b) (alike_all ts rs (omega (arith, h)))

both_true : (a b : Bool) → a && b ≡ true → b ≡ true
both_true true b h = h
both_true false b h = absurd (cc h)

alike_counts : (ts rs : Structures) → alike_each ts rs ≡ true → count_each ts ≡ count_each rs
alike_counts no_structure no_structure h = refl
alike_counts no_structure (structure_and r rs) h = absurd (cc h)
alike_counts (structure_and t ts) no_structure h = absurd (cc h)
alike_counts (structure_and t ts) (structure_and r rs) h = ap (λ n. n + 1) (alike_counts ts rs (both_true (alike t r) (alike_each ts rs) h))

other_counts : (ts rs : Structures) → (count_each ts ≡ count_each rs → ⊥) → false ≡ alike_each ts rs
other_counts ts rs h = by (alike_each ts rs) refl
  where
    by : (b : Bool) → alike_each ts rs ≡ b → false ≡ b
    by true is = absurd (h (alike_counts ts rs is))
    by false is = refl

values_count : (store : List Object) (vs : List Value) (ts : Structures) → StandForEach store vs ts → length vs ≡ count_each ts
values_count store vs no_structure h = ap length h
values_count store vs (structure_and t ts) h =
    let others : length h.1 ≡ count_each ts = values_count store h.1 ts h.4 in let all : length vs ≡ length (h.0 ∷ h.1) = ap length h.2 in omega (arith, others, all)

-- what is bound and captured by nothing is captured by nothing
none_of : (b : Bool) → b && false ≡ false
none_of true = refl
none_of false = refl

no_boxes : (v none increment equal u : ℕ) → has_box u (sequence (one (compare v VectorLength none increment (equal_element v equal)))) ≡ false
no_boxes v none increment equal u = simp none_of

-- a cons that stands for a pair
abbrev pair_cell : {kept store : List Object} → IsExtended Object kept store → (v : Value) (a d : Structure) → StandsFor kept v (pair a d) → Cell store v
pair_cell {kept} {store} e v a d h = record { number = h.0; first = h.1; rest = h.2; is = h.3; there = get_kept e h.0 _ h.4 }

module _ (names : List (List ℕ)) (program : ProgramRows) (limit : Limit) (kept : List Object) (name strings_name vectors_name : Option Name)
    (v strings_v vectors_v nothing truth none increment none' increment' equal strings vectors : ℕ)
    (is_nothing : HasLiteral program nothing datum.nil) (is_truth : HasTruth program truth)
    (is_none : HasLiteral program none (datum.integer (pos 0))) (is_one : HasLiteral program increment (datum.integer (pos 1)))
    (is_none' : HasLiteral program none' (datum.integer (pos 0))) (is_one' : HasLiteral program increment' (datum.integer (pos 1)))
    (by_characters : IsNamed names program strings (string_equal strings_name strings_v none increment))
    (by_elements : IsNamed names program vectors (equal_vectors vectors_name vectors_v none' increment' equal))
    (named : IsNamed names program equal (equal_function name v nothing truth equal strings vectors)) where
  -- what the function gives of a structure and any other one
  abbrev Claim : Structure → Type 0
  Claim t =
      (r : Structure) (z : State) → IsExtended Object kept z.store → (x y : Value) → StandsFor kept x t → StandsFor kept y r
      → (k : ℕ) (wrong : Signals) (around : DynamicContext)
      → GivesKeeping kept limit k (suc (depth t)) z (λ w store. w ≡ truth_of (alike t r))
      (apply_procedure (at_level names program limit k) wrong named.number None (x ∷ y ∷ []) around z)

  abbrev Claims : Structures → Type 0
  Claims no_structure = ⊤
  Claims (structure_and t ts) = Claim t × Claims ts

  abbrev Parts : Structure → Type 0
  Parts (atom x) = ⊤
  Parts (pair a d) = Claim a × Parts d
  Parts (text bytes) = ⊤
  Parts (row ts) = Claims ts

  -- what stands at an index of two rows
  pub record Element (vs us : List Value) (i : ℕ) (b : Bool) (most : ℕ) : Type 0 where
    pub t : Structure
    pub r : Structure
    pub first : StandsFor kept (slice_index_or vs i nil) t
    pub second : StandsFor kept (slice_index_or us i nil) r
    pub claim : Claim t
    pub is : alike t r ≡ b
    pub small : depth t ≤ most
    pub within : i < length vs
    pub also_within : i < length us

  element : (done : List Bool) (b : Bool) (left : List Bool) (ts rs : Structures) (vs us : List Value) → done ++ b ∷ left ≡ alike_list ts rs
      → count_each ts ≡ count_each rs → StandForEach kept vs ts → StandForEach kept us rs → Claims ts
      → Element vs us (length done) b (depth_of_each ts)
  element done b left no_structure rs vs us all e h g cs = absurd (by done all)
    where
      by : (done : List Bool) → done ++ b ∷ left ≡ [] → ⊥
      by [] h = cc h
      by (d ∷ done) h = cc h
  element done b left (structure_and t ts) no_structure vs us all e h g cs = absurd (omega (arith, e))
  element [] b left (structure_and t ts) (structure_and r rs) vs us all e h g cs =
      subst (λ ws. Element ws us 0 b (depth t + depth_of_each ts)) (sym h.2) (subst (λ ws. Element (h.0 ∷ h.1) ws 0 b (depth t + depth_of_each ts)) (sym g.2)
      (record { t = t; r = r; first = h.3; second = g.3; claim = cs.0; is = cc; small = omega arith; within = omega arith; also_within = omega arith }))
  element (d ∷ done) b left (structure_and t ts) (structure_and r rs) vs us all e h g cs =
      let others : done ++ b ∷ left ≡ alike_list ts rs = cc in
      let there : Element h.1 g.1 (length done) b (depth_of_each ts) = element done b left ts rs h.1 g.1 others (omega (arith, e)) h.4 g.4 cs.1 in
      subst (λ ws. Element ws us (suc (length done)) b (depth t + depth_of_each ts)) (sym h.2)
      (subst (λ ws. Element (h.0 ∷ h.1) ws (suc (length done)) b (depth t + depth_of_each ts)) (sym g.2)
      (record {
        t = there.t;
        r = there.r;
        first = there.first;
        second = there.second;
        claim = there.claim;
        is = there.is;
        small = omega (arith, there.small);
        within = omega (arith, there.within);
        also_within = omega (arith, there.also_within);
      }))

  row_in : (store : List Object) (x : Value) (ts : Structures) (h : StandsFor store x (row ts)) → object_in store x ≡ Some (vector h.1)
  row_in store x ts h = ap (object_in store) h.2 ∙ h.3

  -- two vectors
  vectors_give : (ts rs : Structures) → Claims ts → (z : State) → IsExtended Object kept z.store → (x y : Value)
      → StandsFor kept x (row ts) → StandsFor kept y (row rs) → (k : ℕ) (wrong : Signals) (around : DynamicContext)
      → GivesKeeping kept limit k (depth (row ts)) z (λ w store. w ≡ truth_of (alike_each ts rs))
      (apply_procedure (at_level names program limit k) wrong by_elements.number None (x ∷ y ∷ []) around z)
  vectors_give ts rs cs z e x y l r k wrong around =
      let bs : List Bool = alike_list ts rs in
      let size : length bs ≡ count_each ts = alike_length ts rs in
      let items : length l.1 ≡ count_each ts = values_count kept l.1 ts l.5 in
      let others : length r.1 ≡ count_each rs = values_count kept r.1 rs r.5 in
      let small : length bs ≤ 536870911 = omega (arith, size, items, l.4) in
      let most : ℕ = suc (depth_of_each ts) in
      let enough : suc (length bs + most) ≡ depth (row ts) = omega (arith, size) in
      let there : (store : List Object) → IsExtended Object kept store → object_in store x ≡ Some (vector l.1) =
      λ store e. ap (object_in store) l.2 ∙ get_kept e l.0 _ l.3 in
      let also_there : (store : List Object) → IsExtended Object kept store → object_in store y ≡ Some (vector r.1) =
      λ store e. ap (object_in store) r.2 ∙ get_kept e r.0 _ r.3 in
      subst (λ n. GivesKeeping kept limit k n z (λ w store. w ≡ truth_of (alike_each ts rs))
      (apply_procedure (at_level names program limit k) wrong by_elements.number None (x ∷ y ∷ []) around z)) enough
      (applies names program limit z kept (length bs + most) by_elements.number vectors_name (vectors_v ∷ (vectors_v + 1) ∷ []) _ (x ∷ y ∷ [])
      (λ w store. w ≡ truth_of (alike_each ts rs)) e by_elements.there (no_boxes vectors_v none' increment' equal) refl
      (λ levels.
      let s : Setting = setting names program limit z kept (suc levels) (suc (length bs + most)) in
      let there_form : Form = equal_element vectors_v equal in
      let tests : length bs ≡ length r.1 → Tests s vectors_v increment' there_form is_one' x y bs small most =
      λ same k done b left os store short all e Q q.
      let el : Element l.1 r.1 (length done) b (depth_of_each ts) = element done b left ts rs l.1 r.1 all (sym size ∙ same ∙ others) l.5 r.5 cs in
      comes_call (argument_and (comes_vector_ref (comes_local vectors_v 0 (along_first vectors_v) (comes_local (vectors_v + 2) 2 (along_index vectors_v) (
        l.1,
        length done,
        there store e,
        refl,
        el.within,
        argument_and (comes_vector_ref (comes_local (vectors_v + 1) 1 (along_second vectors_v) (comes_local (vectors_v + 2) 2 (along_index vectors_v) (
          r.1,
          length done,
          also_there store e,
          refl,
          el.also_within,
          no_arguments_left (called (λ w store. w ≡ truth_of (alike el.t el.r)) (suc (depth el.t)) (λ few. short (omega (arith, few, el.small))) kept (nothing_added kept)
              (λ w more st e is. subst (λ u. Q u (frame_at s vectors_v increment' there_form is_one' x y bs small most (length done) (os ++ more)) st)
              (sym (is ∙ ap truth_of el.is)) (q more st e))
              equal (equal_function name v nothing truth equal strings vectors) named (slice_index_or l.1 (length done) nil ∷ slice_index_or r.1 (length done) nil ∷ [])
              (λ y h wrong around. el.claim el.r y (subst (IsExtended Object kept) (sym h.objects_are) h.extended)
              (slice_index_or l.1 (length done) nil) (slice_index_or r.1 (length done) nil) el.first el.second k wrong around)),
        )))),
      ))))) in
      comes_sequence (first_then (weaker
      (compare_comes s vectors_v increment' there_form is_one' x y bs small most (length r.1) tests VectorLength none' is_none' (alike_each ts rs) (λ u. refl)
      (λ same. alike_all ts rs (sym size ∙ same ∙ others)) (λ differ. other_counts ts rs (λ same. differ (size ∙ same ∙ sym others)))
      levels z.store (λ few. omega (arith, few)) e
      (λ Q q. comes_vector_length (comes_local vectors_v 0 (at_first vectors_v) (
        l.1,
        there z.store e,
        subst (λ n. Q (integer (pos n)) (x ∷ y ∷ []) z.store) (size ∙ sym items) q,
      )))
      (λ Q q. comes_vector_length (comes_local (vectors_v + 1) 1 (along_second vectors_v) (r.1, also_there z.store e, q))))
      (λ w fr st is. then_nothing is))))
      k wrong around)

  -- what is compared behind the loop
  abbrev final : Structure → Structure → Bool
  final (pair a d) (pair b e) = false
  final t r = alike t r

  module _ (z : State) (lv en : ℕ) where
    abbrev s : Setting
    s = setting names program limit z kept lv en

    -- behind the loop the variables stand for two structures, of which the first is no larger, and which are not two pairs unless they differ
    pub record Compared (t r : Structure) (last : Value) (frame : List Value) (store : List Object) : Type 0 where
      pub x : Value
      pub y : Value
      pub others : List Value
      pub t' : Structure
      pub r' : Structure
      pub frame_is : frame ≡ x ∷ y ∷ others
      pub first : StandsFor kept x t'
      pub second : StandsFor kept y r'
      pub parts : Parts t'
      pub is : final t' r' ≡ alike t r
      pub small : depth t' ≤ depth t
      pub kept_so : IsExtended Object kept store

    -- one of two primitives
    both_comes : (which : Primitive) (k : ℕ) (frame : List Value) (store : List Object) (p q : Bool)
        → ((Q : Value → List Value → List Object → Type 0) → Q (truth_of p) frame store → Comes s (arguments v) (a_form k (of_first which v)) frame store Q)
        → ((Q : Value → List Value → List Object → Type 0) → Q (truth_of q) frame store → Comes s (arguments v) (a_form k (of_second which v)) frame store Q)
        → (Q : Value → List Value → List Object → Type 0) → Q (truth_of (p && q)) frame store → Comes s (arguments v) (a_form k (of_both which v)) frame store Q
    both_comes which k frame store true q first second Q is =
        comes_clauses (clause_taken (first _ (refl, body_form (comes_sequence (first_then (second _ (then_nothing is)))))))
    both_comes which k frame store false q first second Q is = comes_clauses (clause_passed (first _ (refl, no_clause_left is)))

    module _ (k : ℕ) (x y : Value) (others : List Value) (store : List Object) (t r : Structure) (e : IsExtended Object kept store)
        (l : StandsFor kept x t) (g : StandsFor kept y r) where
      abbrev here_frame : List Value
      here_frame = x ∷ y ∷ others

      first_kinds : Kinds (object_in store x) t
      first_kinds = kinds store x t (stands_kept e x t l)

      second_kinds : Kinds (object_in store y) r
      second_kinds = kinds store y r (stands_kept e y r g)

      first_cons : (Q : Value → List Value → List Object → Type 0) → Q (truth_of (is_pair t)) here_frame store → Comes s (arguments v) (a_form k (of_first IsCons v)) here_frame store Q
      first_cons Q q = comes_consp (comes_local v 0 (at_first v) (subst (λ b. Q (truth_of b) here_frame store) (sym first_kinds.cons_is) q))

      second_cons : (Q : Value → List Value → List Object → Type 0) → Q (truth_of (is_pair r)) here_frame store → Comes s (arguments v) (a_form k (of_second IsCons v)) here_frame store Q
      second_cons Q q = comes_consp (comes_local (v + 1) 1 (at_second v) (subst (λ b. Q (truth_of b) here_frame store) (sym second_kinds.cons_is) q))

      both_cons : (Q : Value → List Value → List Object → Type 0) → Q (truth_of (is_pair t && is_pair r)) here_frame store
          → Comes s (arguments v) (a_form k (of_both IsCons v)) here_frame store Q
      both_cons = both_comes IsCons k here_frame store (is_pair t) (is_pair r) first_cons second_cons

      both_strings : (Q : Value → List Value → List Object → Type 0) → Q (truth_of (is_text t && is_text r)) here_frame store
          → Comes s (arguments v) (a_form k (of_both IsString v)) here_frame store Q
      both_strings = both_comes IsString k here_frame store (is_text t) (is_text r)
          (λ Q q. comes_stringp (comes_local v 0 (at_first v) (subst (λ b. Q (truth_of b) here_frame store) (sym first_kinds.string_is) q)))
          (λ Q q. comes_stringp (comes_local (v + 1) 1 (at_second v) (subst (λ b. Q (truth_of b) here_frame store) (sym second_kinds.string_is) q)))

      both_vectors : (Q : Value → List Value → List Object → Type 0) → Q (truth_of (is_row t && is_row r)) here_frame store
          → Comes s (arguments v) (a_form k (of_both IsVector v)) here_frame store Q
      both_vectors = both_comes IsVector k here_frame store (is_row t) (is_row r)
          (λ Q q. comes_vectorp (comes_local v 0 (at_first v) (subst (λ b. Q (truth_of b) here_frame store) (sym first_kinds.vector_is) q)))
          (λ Q q. comes_vectorp (comes_local (v + 1) 1 (at_second v) (subst (λ b. Q (truth_of b) here_frame store) (sym second_kinds.vector_is) q)))

      -- what is neither two conses nor two strings nor two vectors
      others_compared : is_true (truth_of (is_pair t && is_pair r)) ≡ false → is_true (truth_of (is_text t && is_text r)) ≡ false
          → is_true (truth_of (is_row t && is_row r)) ≡ false → same x y ≡ alike t r
          → Comes s (arguments v) (a_form k (equal_end v nothing truth strings vectors)) here_frame store (λ w fr st. w ≡ truth_of (alike t r))
      others_compared no_conses no_strings no_vectors is =
          comes_clauses (clause_passed (both_cons _ (
            no_conses,
            clause_passed (both_strings _ (
              no_strings,
              clause_passed (both_vectors _ (
                no_vectors,
                clause_taken (comes_literal truth (datum.item is_truth.1.0 (datum.symbol is_truth.0)) (symbol (symbol_of names is_truth.0)) is_truth.1.1 refl (
                  refl,
                  body_form (comes_sequence (first_then (comes_same (comes_local v 0 (at_first v) (comes_local (v + 1) 1 (at_second v) (then_nothing (ap truth_of is))))))),
                )),
              )),
            )),
          )))

    -- what comes of two structures behind the loop
    end_comes : (k : ℕ) (x y : Value) (others : List Value) (store : List Object) (t r : Structure) → Parts t → IsExtended Object kept store
        → StandsFor kept x t → StandsFor kept y r → (k < depth t → lv < en)
        → Comes s (arguments v) (a_form k (equal_end v nothing truth strings vectors)) (x ∷ y ∷ others) store (λ w fr st. w ≡ truth_of (final t r))
    end_comes k x y others store (pair a d) (pair b f) ps e l g short =
        comes_clauses (clause_taken (both_cons k x y others store (pair a d) (pair b f) e l g _ (
          refl,
          body_form (comes_sequence (first_then (comes_literal nothing (datum.item is_nothing.0 datum.nil) nil is_nothing.1 refl (then_nothing refl)))),
        )))
    end_comes k x y others store (text a) (text b) ps e l g short =
        comes_clauses (clause_passed (both_cons k x y others store (text a) (text b) e l g _ (
          refl,
          clause_taken (both_strings k x y others store (text a) (text b) e l g _ (
            refl,
            body_form (comes_sequence (first_then (comes_call (argument_and (comes_local v 0 (at_first v) (argument_and (comes_local (v + 1) 1 (at_second v) (no_arguments_left
                (called (λ w store. w ≡ truth_of (bytes_eq a b)) (suc (length a)) (λ few. short (omega (arith, few))) kept (nothing_added kept) (λ w more st e is. then_nothing is)
                strings (string_equal strings_name strings_v none increment) by_characters (x ∷ y ∷ []) (λ z h wrong around.
                string_equal_gives names program limit z strings_name strings_v by_characters.number none increment is_none is_one by_characters.there kept
                (subst (IsExtended Object kept) (sym h.objects_are) h.extended) x y a b l g k wrong around)))))))))),
          )),
        )))
    end_comes k x y others store (row ts) (row rs) ps e l g short =
        comes_clauses (clause_passed (both_cons k x y others store (row ts) (row rs) e l g _ (
          refl,
          clause_passed (both_strings k x y others store (row ts) (row rs) e l g _ (
            refl,
            clause_taken (both_vectors k x y others store (row ts) (row rs) e l g _ (
              refl,
              body_form (comes_sequence (first_then (comes_call (argument_and (comes_local v 0 (at_first v) (argument_and (comes_local (v + 1) 1 (at_second v) (no_arguments_left
                  (called (λ w store. w ≡ truth_of (alike_each ts rs)) (depth (row ts)) short kept (nothing_added kept) (λ w more st e is. then_nothing is)
                  vectors (equal_vectors vectors_name vectors_v none' increment' equal) by_elements (x ∷ y ∷ []) (λ z h wrong around.
                  vectors_give ts rs ps z (subst (IsExtended Object kept) (sym h.objects_are) h.extended) x y l g k wrong around)))))))))),
            )),
          )),
        )))
    end_comes k x y others store (atom a) (atom b) ps e l g short =
        others_compared k x y others store (atom a) (atom b) e l g refl refl refl (ap (λ u. same u y) l.0 ∙ ap (same a) g.0)
    end_comes k x y others store (atom a) (pair b f) ps e l g short =
        others_compared k x y others store (atom a) (pair b f) e l g refl refl refl (others_differ kept x y (atom a) (pair b f) l g (λ p q r. cc))
    end_comes k x y others store (atom a) (text b) ps e l g short =
        others_compared k x y others store (atom a) (text b) e l g refl refl refl (others_differ kept x y (atom a) (text b) l g (λ p q r. cc))
    end_comes k x y others store (atom a) (row rs) ps e l g short =
        others_compared k x y others store (atom a) (row rs) e l g refl refl refl (others_differ kept x y (atom a) (row rs) l g (λ p q r. cc))
    end_comes k x y others store (pair a d) (atom b) ps e l g short =
        others_compared k x y others store (pair a d) (atom b) e l g refl refl refl (others_differ kept x y (pair a d) (atom b) l g (λ p q r. cc))
    end_comes k x y others store (pair a d) (text b) ps e l g short =
        others_compared k x y others store (pair a d) (text b) e l g refl refl refl (others_differ kept x y (pair a d) (text b) l g (λ p q r. cc))
    end_comes k x y others store (pair a d) (row rs) ps e l g short =
        others_compared k x y others store (pair a d) (row rs) e l g refl refl refl (others_differ kept x y (pair a d) (row rs) l g (λ p q r. cc))
    end_comes k x y others store (text a) (atom b) ps e l g short =
        others_compared k x y others store (text a) (atom b) e l g refl refl refl (others_differ kept x y (text a) (atom b) l g (λ p q r. cc))
    end_comes k x y others store (text a) (pair b f) ps e l g short =
        others_compared k x y others store (text a) (pair b f) e l g refl refl refl (others_differ kept x y (text a) (pair b f) l g (λ p q r. cc))
    end_comes k x y others store (text a) (row rs) ps e l g short =
        others_compared k x y others store (text a) (row rs) e l g refl refl refl (others_differ kept x y (text a) (row rs) l g (λ p q r. cc))
    end_comes k x y others store (row ts) (atom b) ps e l g short =
        others_compared k x y others store (row ts) (atom b) e l g refl refl refl (others_differ kept x y (row ts) (atom b) l g (λ p q r. cc))
    end_comes k x y others store (row ts) (pair b f) ps e l g short =
        others_compared k x y others store (row ts) (pair b f) e l g refl refl refl (others_differ kept x y (row ts) (pair b f) l g (λ p q r. cc))
    end_comes k x y others store (row ts) (text b) ps e l g short =
        others_compared k x y others store (row ts) (text b) e l g refl refl refl (others_differ kept x y (row ts) (text b) l g (λ p q r. cc))

    -- a loop's next turn, one level below
    next_turn : (k : ℕ) (frame : List Value) (store : List Object) (f : Form) (Q : Value → List Value → List Object → Type 0) → (k ≡ 0 → lv < en)
        → ((j : ℕ) → k ≡ suc j → Comes s (arguments v) (a_form j f) frame store Q) → Comes s (arguments v) (one_below k f) frame store Q
    next_turn zero frame store f Q none c = none_to_go_below (none refl)
    next_turn (suc j) frame store f Q none c = below_one (c j refl)

    abbrev loop : Form
    loop = while_form (equal_test v equal) (equal_turn v)

    -- where the loop stops at once
    stops_here : (k : ℕ) (x y : Value) (others : List Value) (store : List Object) (t r : Structure) → Parts t → (e : IsExtended Object kept store)
        → (l : StandsFor kept x t) → (g : StandsFor kept y r) → is_pair t && is_pair r ≡ false → final t r ≡ alike t r
        → Comes s (arguments v) (a_form k loop) (x ∷ y ∷ others) store (λ u fr st. Compared t r u fr st)
    stops_here k x y others store t r ps e l g apart is =
        let at_end : Compared t r nil (x ∷ y ∷ others) store = record {
          x = x;
          y = y;
          others = others;
          t' = t;
          r' = r;
          frame_is = refl;
          first = l;
          second = g;
          parts = ps;
          is = is;
          small = omega arith;
          kept_so = e;
        } in
        while_runs (by (is_pair t) refl at_end)
      where
        by : (b : Bool) → is_pair t ≡ b → Compared t r nil (x ∷ y ∷ others) store
            → Comes s (arguments v) (a_form k (equal_test v equal)) (x ∷ y ∷ others) store (λ w fr st.
            ((is_true w ≡ true) × Comes s (arguments v) (a_form k (equal_turn v)) fr st (λ ignored fr st. Comes s (arguments v) (one_below k loop) fr st (λ u fr st. Compared t r u fr st)))
            ⊎ ((is_true w ≡ false) × Compared t r nil fr st))
        by true kind at_end =
            let other : is_pair r ≡ false = ap (λ b. b && is_pair r) (sym kind) ∙ apart in
            comes_clauses (clause_taken (first_cons k x y others store t r e l g _ (
              ap (λ b. is_true (truth_of b)) kind,
              body_form (comes_sequence (first_then (comes_clauses (clause_passed (second_cons k x y others store t r e l g _ (
                ap (λ b. is_true (truth_of b)) other,
                no_clause_left (then_nothing (inr (refl, at_end))),
              )))))),
            )))
        by false kind at_end =
            comes_clauses (clause_passed (first_cons k x y others store t r e l g _ (
              ap (λ b. is_true (truth_of b)) kind,
              no_clause_left (inr (refl, at_end)),
            )))

    -- the loop
    loop_comes : (t : Structure) → Parts t → (r : Structure) (k : ℕ) (x y : Value) (others : List Value) (store : List Object) → IsExtended Object kept store
        → StandsFor kept x t → StandsFor kept y r → (k < depth t → lv < en)
        → Comes s (arguments v) (a_form k loop) (x ∷ y ∷ others) store (λ u fr st. Compared t r u fr st)
    loop_comes (pair a d) ps (pair b f) k x y others store e l g short =
        while_runs (comes_clauses (clause_taken (first_cons k x y others store (pair a d) (pair b f) e l g _ (
          refl,
          body_form (comes_sequence (first_then (comes_clauses (clause_taken (second_cons k x y others store (pair a d) (pair b f) e l g _ (
            refl,
            body_form (comes_sequence (first_then (comes_call (argument_and (comes_car (comes_local v 0 (at_first v) (
              pair_cell e x a d l,
              argument_and (comes_car (comes_local (v + 1) 1 (at_second v) (
                pair_cell e y b f g,
                no_arguments_left (called (λ w store. w ≡ truth_of (alike a b)) (suc (depth a)) (λ few. short (omega (arith, few))) kept (nothing_added kept)
                    (λ w more st e is. then_nothing (then_nothing (by (alike a b) refl w is more st e (λ j few same e. loop_comes d ps.1 f j l.2 g.2 (others ++ more) st e l.6 g.6 few))))
                    equal (equal_function name v nothing truth equal strings vectors) named (l.1 ∷ g.1 ∷ []) (λ z h wrong around.
                    ps.0 b z (subst (IsExtended Object kept) (sym h.objects_are) h.extended) l.1 g.1 l.5 g.5 k wrong around)),
              ))),
            ))))))),
          )))))),
        ))))
      where
        by : (c : Bool) → alike a b ≡ c → (w : Value) → w ≡ truth_of (alike a b) → (more : List Value) (st : List Object) → IsExtended Object kept st
            → ((j : ℕ) → (j < depth d → lv < en) → k ≡ suc j → IsExtended Object kept st
            → Comes s (arguments v) (a_form j loop) (l.2 ∷ g.2 ∷ (others ++ more)) st (λ u fr st. Compared d f u fr st))
            → ((is_true w ≡ true) × Comes s (arguments v) (a_form k (equal_turn v)) (x ∷ y ∷ (others ++ more)) st (λ ignored fr st.
            Comes s (arguments v) (one_below k loop) fr st (λ u fr st. Compared (pair a d) (pair b f) u fr st)))
            ⊎ ((is_true w ≡ false) × Compared (pair a d) (pair b f) nil (x ∷ y ∷ (others ++ more)) st)
        by true same w is more st e goes_on =
            inl (
              ap is_true is ∙ ap (λ c. is_true (truth_of c)) same,
              comes_sequence (first_then (comes_set v 0 (at_first v) (comes_cdr (comes_local v 0 (at_first v) (
                pair_cell e x a d l,
                first_then (comes_set (v + 1) 1 (at_second v) (comes_cdr (comes_local (v + 1) 1 (at_second v) (
                  pair_cell e y b f g,
                  then_nothing (next_turn k (l.2 ∷ g.2 ∷ (others ++ more)) st loop (λ u fr st. Compared (pair a d) (pair b f) u fr st)
                      (λ none. short (omega (arith, none)))
                      (λ j next. weaker (goes_on j (λ few. short (omega (arith, few, next))) next e) (λ u fr st c. record {
                        x = c.x;
                        y = c.y;
                        others = c.others;
                        t' = c.t';
                        r' = c.r';
                        frame_is = c.frame_is;
                        first = c.first;
                        second = c.second;
                        parts = c.parts;
                        is = c.is ∙ sym (ap (λ b. b && alike d f) same);
                        small = omega (arith, c.small);
                        kept_so = c.kept_so;
                      }))),
                )))),
              ))))),
            )
        by false differ w is more st e goes_on =
            inr (
              ap is_true is ∙ ap (λ c. is_true (truth_of c)) differ,
              record {
                x = x;
                y = y;
                others = others ++ more;
                t' = pair a d;
                r' = pair b f;
                frame_is = refl;
                first = l;
                second = g;
                parts = ps;
                is = sym (ap (λ c. c && alike d f) differ);
                small = omega arith;
                kept_so = e;
              },
            )
    loop_comes (pair a d) ps (atom b) k x y others store e l g short = stops_here k x y others store (pair a d) (atom b) ps e l g refl refl
    loop_comes (pair a d) ps (text b) k x y others store e l g short = stops_here k x y others store (pair a d) (text b) ps e l g refl refl
    loop_comes (pair a d) ps (row rs) k x y others store e l g short = stops_here k x y others store (pair a d) (row rs) ps e l g refl refl
    loop_comes (atom a) ps r k x y others store e l g short = stops_here k x y others store (atom a) r ps e l g refl refl
    loop_comes (text a) ps r k x y others store e l g short = stops_here k x y others store (text a) r ps e l g refl refl
    loop_comes (row ts) ps r k x y others store e l g short = stops_here k x y others store (row ts) r ps e l g refl refl

  -- what the function gives, where it gives that of the parts
  claim_of : (t : Structure) → Parts t → Claim t
  claim_of t ps r z e x y l g =
      applies names program limit z kept (depth t) named.number name (v ∷ (v + 1) ∷ []) _ (x ∷ y ∷ []) (λ w store. w ≡ truth_of (alike t r)) e named.there (λ u. refl) refl
      (λ levels. comes_sequence (first_then (weaker
      (loop_comes z (suc levels) (suc (depth t)) t ps r levels x y [] z.store e l g (λ few. omega (arith, few)))
      (λ u fr st c. at_frame c.frame_is (first_then (weaker
      (end_comes z (suc levels) (suc (depth t)) levels c.x c.y c.others st c.t' c.r' c.parts c.kept_so c.first c.second (λ few. omega (arith, few, c.small)))
      (λ w fr st is. then_nothing (is ∙ ap truth_of c.is))))))))

  -- and so it does of all structures
  mutual
    parts : (t : Structure) → Parts t
    parts (atom x) = tt
    parts (pair a d) = (claim_of a (parts a), parts d)
    parts (text bytes) = tt
    parts (row ts) = claims ts

    claims : (ts : Structures) → Claims ts
    claims no_structure = tt
    claims (structure_and t ts) = (claim_of t (parts t), claims ts)

pub law_of_equal : LawOfEqual
law_of_equal names program name strings_name vectors_name v strings_v vectors_v nothing truth none increment none' increment' equal strings vectors
    is_nothing is_truth is_none is_one is_none' is_one' by_characters by_elements named limit k wrong around z x y t r l g =
    let enough : suc (depth t) ≡ depth t + 1 = omega arith in
    subst (λ n. Gives limit k n z (λ w store. w ≡ truth_of (alike t r)) (apply_procedure (at_level names program limit k) wrong named.number None (x ∷ y ∷ []) around z)) enough
    (claim_of names program limit z.store name strings_name vectors_name v strings_v vectors_v nothing truth none increment none' increment' equal strings vectors
    is_nothing is_truth is_none is_one is_none' is_one' by_characters by_elements named t
    (parts names program limit z.store name strings_name vectors_name v strings_v vectors_v nothing truth none increment none' increment' equal strings vectors
    is_nothing is_truth is_none is_one is_none' is_one' by_characters by_elements named t)
    r z (nothing_added z.store) x y l g k wrong around)

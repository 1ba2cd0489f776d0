-- The search of an exit by its kind and its tag.
use Rattle.std.proofs.Common.{◌≡◌, ◌⊎◌, inl, inr, ℕ, zero, suc, ◌+◌, ◌<◌, ◌≤◌, Bool, true, false, List, [], ◌∷◌, length, Option, Some, refl, sym, ap, ◌∙◌, subst, arith}
use Rattle.std.specs.Prelude.{◌==◌, ◌^◌, if◌then◌else◌}
use Rattle.std.proofs.lemmas.Bool.{ne_eqb, eq-eqb}
use Rattle.lang_meaning.specs.State.{Exit, end_exit}
use Rattle.mid_code.specs.declared.program.MidProcedure.{MidProcedure}
use Rattle.mid_code.specs.Arena.{word_at}
use Rattle.mid_code.specs.State.{Registers, falls, ends, MidState, MidOutcome}
use Rattle.mid_code.specs.MidCode.{code_of}
use Rattle.mid_code.specs.Meaning.{Task}
use Rattle.mid_arena.proofs.Running.{RunsTo, and_then, none_left, load_falls, constant_falls, choose_first_falls, choose_second_falls, address_up, repeat_falls, repeat_turn, turning}
use Rattle.back_lowering.specs.ControlWords.{record_kind, record_link, record_tag, end_kind}
use Rattle.back_lowering.specs.Steps.{Steps, constant, load, if_equal}
use Rattle.back_relation.specs.Worlds.{World, Standing, for_exit, IsIn, Links, EndsAtEnd, record_of_exit}
use Rattle.back_relation.specs.StackWords.{RecordAt, kind_number}
use Rattle.back_relation.specs.Walks.{costing}
use Rattle.back_exits.specs.Searches.{IsLong}
use Rattle.back_exits.specs.Tags.{tag_registers, TagTells, of_kind, of_end, of_other, TagSought, found, missing, TagsWalked, LawOfTags}
use Rattle.back_exits.proofs.Searches.{finds_first, finds_behind, misses_none, misses_behind, long_first, long_behind}
use Rattle.back_exits.proofs.Links.{Linked, linked}

abbrev head_steps : (kind : ℕ) → Steps
head_steps kind =
    constant 6 1 ∷ load 4 3 record_kind ∷ constant 5 kind
    ∷ if_equal 4 5
    (load 5 3 record_tag ∷ if_equal 5 0 (constant 6 0 ∷ []) [] ∷ [])
    (constant 5 end_kind ∷ if_equal 4 5 (constant 6 0 ∷ constant 3 0 ∷ []) [] ∷ [])
    ∷ []

end_number : (x : Exit) → x.kind ≡ end_exit → (kind_number (for_exit x) == end_kind) ≡ true
end_number x e = ap (λ k. kind_number (for_exit (record { number = x.number; kind = k })) == end_kind) e

module _ (procedures : List MidProcedure) (below : Task → MidState → MidOutcome) (kind tag word : ℕ) (p : Exit → Bool) (w : World) (y : MidState) (rs : List Standing)
    (small : length y.arena.memory ≤ 2 ^ 24) (records : (r : Standing) → IsIn r rs → RecordAt w y r)
    (tells : (x : Exit) (v : Standing) → IsIn v rs → v.role ≡ for_exit x → TagTells kind tag p y x v) where
  abbrev WalkedTo : ℕ → ℕ → ℕ → Option ℕ → Option ℕ → Option ℕ → ℕ → List Exit → List Standing → Type 0
  WalkedTo n most a r4 r5 r6 cost xs vs = TagsWalked procedures below n kind tag word p y rs most a r4 r5 r6 cost xs vs

  abbrev regs_at : ℕ → (r4 r5 r6 : Option ℕ) → Registers
  regs_at a r4 r5 r6 = tag_registers tag word a r4 r5 r6

  -- what the head of the loop comes to: the exit is the one that is sought, or the end, or it is passed
  record HeadIs (n a : ℕ) (r4 r5 r6 : Option ℕ) (cost at six most : ℕ) : Type 0 where
    pub four : Option ℕ
    pub five : Option ℕ
    pub total : ℕ
    pub run : RunsTo (turning procedures below n) (code_of (head_steps kind)) (regs_at a r4 r5 r6) (costing y cost) (ends falls (regs_at at four five (Some six)) (costing y total))
    pub within : total ≤ cost + most

  module _ (x : Exit) (v : Standing) (here : Linked y x v) (kind_word : word_at y.arena (v.address + record_kind) ≡ Some (kind_number (for_exit x))) where
    module _ (n : ℕ) (r4 r5 r6 : Option ℕ) (cost : ℕ) where
      c_low : (k : ℕ) → k < 24 → v.address + k < 2 ^ 32
      c_low k h = let low = here.low in omega arith

      -- the kind and the tag are those that are sought
      head_same : (t : ℕ) → (kind_number (for_exit x) == kind) ≡ true → word_at y.arena (v.address + record_tag) ≡ Some t → (t == tag) ≡ true
          → HeadIs n v.address r4 r5 r6 cost v.address 0 66
      head_same t k tag_word same = record {
        four = Some (kind_number (for_exit x));
        five = Some t;
        total = cost + 6 + 8 + 6 + 12 + 8 + 12 + 6 + 2 + 2;
        run =
            and_then constant_falls
            (and_then (load_falls refl (address_up v.address record_kind (c_low record_kind (omega arith))) kind_word)
            (and_then constant_falls
            (and_then
            (choose_first_falls refl refl k
            (and_then (load_falls refl (address_up v.address record_tag (c_low record_tag (omega arith))) tag_word)
            (and_then (choose_first_falls refl refl same (and_then constant_falls none_left)) none_left)))
            none_left)));
        within = omega arith;
      }

      -- the kind, but another tag
      head_tag : (t : ℕ) → (kind_number (for_exit x) == kind) ≡ true → word_at y.arena (v.address + record_tag) ≡ Some t → (t == tag) ≡ false
          → HeadIs n v.address r4 r5 r6 cost v.address 1 56
      head_tag t k tag_word same = record {
        four = Some (kind_number (for_exit x));
        five = Some t;
        total = cost + 6 + 8 + 6 + 12 + 8 + 12 + 2 + 2;
        run =
            and_then constant_falls
            (and_then (load_falls refl (address_up v.address record_kind (c_low record_kind (omega arith))) kind_word)
            (and_then constant_falls
            (and_then
            (choose_first_falls refl refl k
            (and_then (load_falls refl (address_up v.address record_tag (c_low record_tag (omega arith))) tag_word)
            (and_then (choose_second_falls refl refl same none_left) none_left)))
            none_left)));
        within = omega arith;
      }

      -- the end
      head_end : (kind_number (for_exit x) == kind) ≡ false → (kind_number (for_exit x) == end_kind) ≡ true → HeadIs n v.address r4 r5 r6 cost 0 0 66
      head_end k e = record {
        four = Some (kind_number (for_exit x));
        five = Some end_kind;
        total = cost + 6 + 8 + 6 + 12 + 6 + 12 + 6 + 6 + 2 + 2;
        run =
            and_then constant_falls
            (and_then (load_falls refl (address_up v.address record_kind (c_low record_kind (omega arith))) kind_word)
            (and_then constant_falls
            (and_then
            (choose_second_falls refl refl k
            (and_then constant_falls
            (and_then (choose_first_falls refl refl e (and_then constant_falls (and_then constant_falls none_left))) none_left)))
            none_left)));
        within = omega arith;
      }

      -- another kind
      head_other : (kind_number (for_exit x) == kind) ≡ false → (kind_number (for_exit x) == end_kind) ≡ false → HeadIs n v.address r4 r5 r6 cost v.address 1 56
      head_other k e = record {
        four = Some (kind_number (for_exit x));
        five = Some end_kind;
        total = cost + 6 + 8 + 6 + 12 + 6 + 12 + 2 + 2;
        run =
            and_then constant_falls
            (and_then (load_falls refl (address_up v.address record_kind (c_low record_kind (omega arith))) kind_word)
            (and_then constant_falls
            (and_then
            (choose_second_falls refl refl k
            (and_then constant_falls
            (and_then (choose_second_falls refl refl e none_left) none_left)))
            none_left)));
        within = omega arith;
      }

    -- the loop stops
    stops :
        (n most at : ℕ) (r4 r5 r6 : Option ℕ) (cost : ℕ) (xs : List Exit) (vs : List Standing) → HeadIs n v.address r4 r5 r6 cost at 0 66
        → TagSought p rs most xs vs 0 at → WalkedTo n most v.address r4 r5 r6 cost xs vs
    stops n most at r4 r5 r6 cost xs vs head s = record {
      passed = 0;
      at = at;
      total = head.total + 12;
      last4 = head.four;
      last5 = head.five;
      last6 = Some 0;
      run = (repeat_falls head.run refl refl refl).same;
      within = omega (arith, head.within);
      sought = s;
    }

    -- it goes on
    passes :
        (n most : ℕ) (r4 r5 r6 : Option ℕ) (cost : ℕ) (xs : List Exit) (vs : List Standing) → p x ≡ false → x.number < most
        → (head : HeadIs (suc n) v.address r4 r5 r6 cost v.address 1 56)
        → WalkedTo n x.number v.link head.four head.five (Some 1) (head.total + 12 + 8 + 2) xs vs
        → WalkedTo (suc n) most v.address r4 r5 r6 cost (x ∷ xs) (v ∷ vs)
    passes n most r4 r5 r6 cost xs vs other less head rest = record {
      passed = rest.passed + 1;
      at = rest.at;
      total = rest.total;
      last4 = rest.last4;
      last5 = rest.last5;
      last6 = rest.last6;
      run =
          (repeat_turn procedures below n head.run refl refl refl
          (and_then (load_falls refl (address_up v.address record_link (let low = here.low in omega arith)) here.link) none_left)
          (record { same = rest.run })).same;
      within = omega (arith, rest.within, head.within);
      sought = by rest.sought;
    }
      where
        by : TagSought p rs x.number xs vs rest.passed rest.at → TagSought p rs most (x ∷ xs) (v ∷ vs) (rest.passed + 1) rest.at
        by (found x' v' f g k i role r s) =
            found x' v' f (omega (arith, g, less)) k i role
            (ap (λ b. if b then Some v else record_of_exit x'.number xs vs) (ne_eqb x.number x'.number (λ same. omega (arith, same, g))) ∙ r)
            (finds_behind p x x' xs rest.passed other s)
        by (missing f g s) = missing f (omega (arith, g)) (misses_behind p x xs other s)

  -- what goes on from an exit on
  abbrev Ended : ℕ → ℕ → ℕ → Option ℕ → Option ℕ → Option ℕ → ℕ → List Exit → List Standing → Type 0
  Ended n most a r4 r5 r6 cost xs vs = WalkedTo n most a r4 r5 r6 cost xs vs ⊎ IsLong p xs n

  abbrev More : Exit → Standing → List Exit → List Standing → Type 0
  More x v xs vs = (m : ℕ) (four five : Option ℕ) (c : ℕ) → Ended m x.number v.link four five (Some 1) c xs vs

  kind_there : (x : Exit) (v : Standing) → v.role ≡ for_exit x → RecordAt w y v → word_at y.arena (v.address + record_kind) ≡ Some (kind_number (for_exit x))
  kind_there x v role at = at.kind ∙ ap (λ u. Some (kind_number u)) role

  tags_walked :
      (xs : List Exit) (vs : List Standing) (n a most : ℕ) (r4 r5 r6 : Option ℕ) (cost : ℕ) → Links rs a most xs vs → EndsAtEnd xs
      → Ended n most a r4 r5 r6 cost xs vs
  tags_walked [] vs n a most r4 r5 r6 cost l end = absurd end
  tags_walked (x ∷ xs) [] n a most r4 r5 r6 cost l end = absurd l
  tags_walked (x ∷ []) (v ∷ vs) n a most r4 r5 r6 cost l end =
      subst (λ b. Ended n most b r4 r5 r6 cost (x ∷ []) (v ∷ vs)) (sym l.0) (by (tells x v l.1 l.2))
    where
      is_end : x.kind ≡ end_exit
      is_end = ap (λ (x : Exit). x.kind) end

      by : TagTells kind tag p y x v → Ended n most v.address r4 r5 r6 cost (x ∷ []) (v ∷ vs)
      by (of_kind k other t tag_word same) = absurd (other is_end)
      by (of_end k e f) =
          inl (stops x v (linked w y x v small l.2 (records v l.1)) (kind_there x v l.2 (records v l.1)) n most 0 r4 r5 r6 cost (x ∷ []) (v ∷ vs)
          (head_end x v (linked w y x v small l.2 (records v l.1)) (kind_there x v l.2 (records v l.1)) n r4 r5 r6 cost k (end_number x e))
          (missing refl refl (misses_behind p x [] f (misses_none p))))
      by (of_other k e other f) = absurd (other is_end)
  tags_walked (x ∷ x' ∷ xs) (v ∷ vs) n a most r4 r5 r6 cost l end =
      subst (λ b. Ended n most b r4 r5 r6 cost (x ∷ x' ∷ xs) (v ∷ vs)) (sym l.0)
      (by (tells x v l.1 l.2) n (λ m four five c. tags_walked (x' ∷ xs) vs m v.link x.number four five (Some 1) c l.4 end.1))
    where
      here : Linked y x v
      here = linked w y x v small l.2 (records v l.1)

      there : word_at y.arena (v.address + record_kind) ≡ Some (kind_number (for_exit x))
      there = kind_there x v l.2 (records v l.1)

      further : (n : ℕ) → p x ≡ false → (head : HeadIs (suc n) v.address r4 r5 r6 cost v.address 1 56)
          → Ended n x.number v.link head.four head.five (Some 1) (head.total + 12 + 8 + 2) (x' ∷ xs) vs → Ended (suc n) most v.address r4 r5 r6 cost (x ∷ x' ∷ xs) (v ∷ vs)
      further n e head (inl rest) = inl (passes x v here there n most r4 r5 r6 cost (x' ∷ xs) vs e l.3 head rest)
      further n e head (inr rest) = inr (long_behind p x (x' ∷ xs) n e rest)

      by_tag : (b : Bool) → p x ≡ b → (t : ℕ) → kind_number (for_exit x) ≡ kind → word_at y.arena (v.address + record_tag) ≡ Some t → (t == tag) ≡ p x
          → (n : ℕ) → More x v (x' ∷ xs) vs → Ended n most v.address r4 r5 r6 cost (x ∷ x' ∷ xs) (v ∷ vs)
      by_tag true e t k tag_word same n inner =
          inl (stops x v here there n most v.address r4 r5 r6 cost (x ∷ x' ∷ xs) (v ∷ vs) (head_same x v here there n r4 r5 r6 cost t (eq-eqb _ _ k) tag_word (same ∙ e))
          (found x v e l.3 refl l.1 l.2 (ap (λ b. if b then Some v else record_of_exit x.number (x' ∷ xs) vs) (eq-eqb x.number x.number refl)) (finds_first p x (x' ∷ xs) e)))
      by_tag false e t k tag_word same zero inner = inr (long_first p x (x' ∷ xs))
      by_tag false e t k tag_word same (suc n) inner =
          let head = head_tag x v here there (suc n) r4 r5 r6 cost t (eq-eqb _ _ k) tag_word (same ∙ e) in
          further n e head (inner n head.four head.five (head.total + 12 + 8 + 2))

      by : TagTells kind tag p y x v → (n : ℕ) → More x v (x' ∷ xs) vs → Ended n most v.address r4 r5 r6 cost (x ∷ x' ∷ xs) (v ∷ vs)
      by (of_kind k other t tag_word same) n inner = by_tag (p x) refl t k tag_word same n inner
      by (of_end k e f) n inner = absurd (end.0 e)
      by (of_other k e other f) zero inner = inr (long_first p x (x' ∷ xs))
      by (of_other k e other f) (suc n) inner =
          let head = head_other x v here there (suc n) r4 r5 r6 cost k e in
          further n f head (inner n head.four head.five (head.total + 12 + 8 + 2))

pub tags_law : LawOfTags
tags_law procedures below kind tag word p w y rs xs vs n a most r4 r5 r6 cost small records tells links end =
    tags_walked procedures below kind tag word p w y rs small records tells xs vs n a most r4 r5 r6 cost links end

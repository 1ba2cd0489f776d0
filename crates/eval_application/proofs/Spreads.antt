-- The elements of a list become operands, one after another.
use Rattle.std.proofs.Common.{◌≡◌, ℕ, suc, ◌+◌, ◌-◌, ◌<◌, ◌==◌, ◌≢◌, List, [], ◌∷◌, ◌++◌, length, Bool, true, false, cond, Some, None, refl, ap, sym, ◌∙◌, subst, zero-add, arith, ⊎_elim}
use Rattle.std.specs.Prelude.{if◌then◌else◌, ◌||◌}
use Rattle.std.proofs.lemmas.List.{map-append, append-nil, append_assoc, length-append, length-map}
use Rattle.std.proofs.lemmas.Bool.{cases_eq}
use Rattle.std.proofs.lemmas.Bool.Decides.{nat_tests}
use Rattle.lang_meaning.specs.Values.{Value, object}
use Rattle.lang_meaning.specs.Objects.{cons, list_class, function_class}
use Rattle.lang_meaning.specs.State.{State, DynamicContext}
use Rattle.lang_meaning.specs.Lookup.{is_in}
use Rattle.lang_meaning.specs.Classes.{fetch}
use Rattle.lang_meaning.specs.Meaning.{Spread, spread_at, spread}
use Rattle.lang_meaning.specs.Primitives.{is_function}
use Rattle.flat_language.specs.FlatState.{FlatState, charged}
use Rattle.eval_machine.specs.Configuration.{Setting, ContinuationFrame, Configuration}
use Rattle.eval_machine.specs.Applications.{apply_value, signal_domain}
use Rattle.eval_machine.specs.Step.{apply_step}
use Rattle.eval_store.specs.declared.word.Word.{Word}
use Rattle.eval_store.specs.declared.word.Word.TheVariants as word
use Rattle.eval_store.specs.declared.object.Object.{Object as Kept}
use Rattle.eval_store.specs.declared.object.Object.TheVariants as made
use Rattle.eval_store.specs.declared.store.Store.{Store}
use Rattle.eval_store.specs.Words.{value_of_word, values_of, object_of}
use Rattle.eval_store.specs.View.{Beside, state_of, IsFetched}
use Rattle.eval_state.specs.declared.situation.Situation.{Situation}
use Rattle.eval_state.specs.declared.machine.Machine.{Machine}
use Rattle.eval_state.specs.Frames.{frame_slots}
use Rattle.eval_state.specs.Operands.{IsPushed, IsDropped}
use Rattle.eval_state.specs.View.{StepsTo, IsCharged, setting_of, at, top, frames, state, dynamic_context}
use Rattle.eval_application.specs.declared.spreading.Spread.{Spread as Pushed}
use Rattle.eval_application.specs.Methods.{ArePushed}
use Rattle.eval_application.specs.Spreading.{ListGoesOn, ListEnds, IsSpread, behind}
use Rattle.eval_state.proofs.Doing.{then_dropped}
use Rattle.eval_state.proofs.Going.{after_store}
use Rattle.eval_state.proofs.Stepping.{same_configuration}
use Rattle.eval_application.proofs.Above.{then_arguments}
use Rattle.eval_application.proofs.Situations.{level_at, around_at}

-- what a list goes on with
pub cons_on : (s : Store) (w : Word) (o : Kept) (n : ℕ) (car cdr : Word) → w ≡ word.Object n → IsFetched s (word.Object n) (Some o) → o ≡ made.Cons car cdr → ListGoesOn s w n car cdr
cons_on s w o n car cdr e x h = record {
  is_object = e;
  there = λ names b. ap (λ u. fetch (state_of names s b) (value_of_word names u)) e ∙ x.object names b ∙ ap (λ p. Some (object_of names p)) h;
}

-- or how it ends
else_ends : (names : List (List ℕ)) (n : ℕ) (o : Kept) → ((a : Word) (d : Word) → o ≡ made.Cons a d → ⊥) → (others : ℕ → Value → Spread) (seen : List ℕ)
    → spread_at others seen (object n) (Some (object_of names o)) ≡ record { elements = []; proper = false }
else_ends names n (made.Cons a d) f others seen = absurd (f a d refl)
else_ends names n o f others seen = refl

pub no_cons_ends : (s : Store) (w : Word) (o : Kept) (n : ℕ) → w ≡ word.Object n → IsFetched s (word.Object n) (Some o) → ((a : Word) (d : Word) → o ≡ made.Cons a d → ⊥) → ListEnds s w false
no_cons_ends s w o n e x f = record {
  ends = λ names b others seen.
      ap (λ u. spread_at others seen (value_of_word names u) (fetch (state_of names s b) (value_of_word names u))) e
      ∙ ap (λ r. spread_at others seen (object n) r) (x.object names b)
      ∙ else_ends names n o f others seen;
}

pub nothing_ends : (s : Store) (w : Word) (n : ℕ) → w ≡ word.Object n → IsFetched s (word.Object n) None → ListEnds s w false
nothing_ends s w n e x = record {
  ends = λ names b others seen.
      ap (λ u. spread_at others seen (value_of_word names u) (fetch (state_of names s b) (value_of_word names u))) e
      ∙ ap (λ r. spread_at others seen (object n) r) (x.object names b);
}

pub atom_ends : (s : Store) (w : Word) → w ≢ word.Nil → ((n : ℕ) → w ≡ word.Object n → ⊥) → ListEnds s w false
atom_ends s word.Nil f g = absurd (f refl)
atom_ends s (word.Object n) f g = absurd (g n refl)
atom_ends s w f g = record { ends = λ names b others seen. refl }

pub nil_ends : (s : Store) → ListEnds s word.Nil true
nil_ends s = record { ends = λ names b others seen. refl }

-- how far the list has come
pub record Spreading (old now : Machine) (list left : Word) (count : ℕ) (member : ℕ → Bool) : Type 0 where
  pub more : List Word
  pub seen : List ℕ
  pub pushed : ArePushed old now more
  pub count_is : count ≡ length more
  pub members : (k : ℕ) → member k ≡ is_in k seen
  pub left_is : (names : List (List ℕ)) (b : Beside) (fuel : ℕ)
      → spread (count + fuel) (state names old b).state [] (value_of_word names list) ≡ behind (values_of names more) (spread fuel (state names old b).state seen (value_of_word names left))

pub nothing_spread : (m : Machine) (list : Word) (member : ℕ → Bool) → ((k : ℕ) → member k ≡ false) → Spreading m m list list 0 member
nothing_spread m list member h = record {
  more = [];
  seen = [];
  pushed = record { operands = sym (append-nil m.operands.items); same = refl };
  count_is = refl;
  members = h;
  left_is = λ names b fuel. ap (λ n. spread n (state names m b).state [] (value_of_word names list)) (zero-add fuel);
}

-- the store is as it was
same_store : (old now : Machine) (ws : List Word) → ArePushed old now ws → now.store ≡ old.store
same_store old now ws p = ap (λ (m : Machine). m.store) p.same

-- one element more, of a cons that was not passed before
spread_one : (z : State) (fuel n : ℕ) (seen : List ℕ) (v a d : Value) → v ≡ object n → fetch z v ≡ Some (cons a d) → is_in n seen ≡ false
    → spread (suc fuel) z seen v ≡ behind (a ∷ []) (spread fuel z (n ∷ seen) d)
spread_one z fuel n seen v a d e h k =
    ap (λ o. spread_at (λ i d. spread fuel z (i ∷ seen) d) seen v o) h
    ∙ ap (λ x. spread_at (λ i d. spread fuel z (i ∷ seen) d) seen x (Some (cons a d))) e
    ∙ ap (λ (t : Bool). if t then (let r : Spread = record { elements = []; proper = false } in r) else behind (a ∷ []) (spread fuel z (n ∷ seen) d)) k

-- or one that was
spread_again : (z : State) (fuel n : ℕ) (seen : List ℕ) (v a d : Value) → v ≡ object n → fetch z v ≡ Some (cons a d) → is_in n seen ≡ true
    → spread (suc fuel) z seen v ≡ record { elements = []; proper = false }
spread_again z fuel n seen v a d e h k =
    ap (λ o. spread_at (λ i d. spread fuel z (i ∷ seen) d) seen v o) h
    ∙ ap (λ x. spread_at (λ i d. spread fuel z (i ∷ seen) d) seen x (Some (cons a d))) e
    ∙ ap (λ (t : Bool). if t then (let r : Spread = record { elements = []; proper = false } in r) else behind (a ∷ []) (spread fuel z (n ∷ seen) d)) k

swapped : (k n : ℕ) → (n == k) ≡ (k == n)
swapped k n =
    ⊎_elim
    (λ (e : n ≡ k). let there : (n == k) ≡ true = grind (arith, nat_tests) in let back : (k == n) ≡ true = grind (arith, nat_tests) in there ∙ sym back)
    (λ (e : n ≢ k). let there : (n == k) ≡ false = grind (arith, nat_tests) in let back : (k == n) ≡ false = grind (arith, nat_tests) in there ∙ sym back)
    (cases_eq n k)

in_more : (k n : ℕ) (m : Bool) (seen : List ℕ) → m ≡ is_in k seen → cond (n == k) true m ≡ is_in k (n ∷ seen)
in_more k n m seen h =
    ap (λ t. cond t true m) (swapped k n) ∙ elim (k == n) as (λ t. cond t true m ≡ (t || is_in k seen)) [ true ↦ refl | false ↦ h ]

pub one_spread : (old now new : Machine) (list left car cdr : Word) (count n : ℕ) (member after : ℕ → Bool) → Spreading old now list left count member → ListGoesOn now.store left n car cdr
    → member n ≡ false → IsPushed now new car → ((k : ℕ) → after k ≡ cond (n == k) true (member k))
    → Spreading old new list cdr (count + 1) after
one_spread old now new list left car cdr count n member after h g f p u =
    let here : ListGoesOn old.store left n car cdr = subst (λ s. ListGoesOn s left n car cdr) (same_store old now h.more h.pushed) g in
    record {
      more = h.more ++ car ∷ [];
      seen = n ∷ h.seen;
      pushed = record {
        operands = p.operands ∙ ap (λ xs. xs ++ car ∷ []) h.pushed.operands ∙ append_assoc old.operands.items h.more (car ∷ []);
        same = p.same ∙ ap (λ (m : Machine). record m { operands = new.operands }) h.pushed.same;
      };
      count_is = ap (λ k. k + 1) h.count_is ∙ sym (length-append h.more (car ∷ []));
      members = λ k. u k ∙ in_more k n (member k) h.seen (h.members k);
      left_is = λ names b fuel.
          let z : State = (state names old b).state in
          let a : Value = value_of_word names car in
          let rest : Spread = spread fuel z (n ∷ h.seen) (value_of_word names cdr) in
          let more_fuel : count + 1 + fuel ≡ count + suc fuel = omega arith in
          ap (λ k. spread k z [] (value_of_word names list)) more_fuel
          ∙ h.left_is names b (suc fuel)
          ∙ ap (behind (values_of names h.more)) (spread_one z fuel n h.seen (value_of_word names left) a (value_of_word names cdr) (ap (value_of_word names) here.is_object) (here.there names (record b { frame = frame_slots names old.current old.slots.items })) (sym (h.members n) ∙ f))
          ∙ ap (λ xs. record { elements = xs; proper = rest.proper }) (sym (append_assoc (values_of names h.more) (a ∷ []) rest.elements))
          ∙ ap (λ xs. behind xs rest) (sym (map-append (value_of_word names) h.more (car ∷ [])));
    }

-- so many steps are left
module _ (old now : Machine) (list left : Word) (count limit : ℕ) (member : ℕ → Bool) (h : Spreading old now list left count member)
    (l : (names : List (List ℕ)) (b : Beside) → limit ≡ suc (length (state names old b).state.store)) where
  steps_left : count < limit → (names : List (List ℕ)) (b : Beside) → length (state names old b).state.store + 1 ≡ count + suc (limit - count - 1)
  steps_left k names b = let e : limit ≡ suc (length (state names old b).state.store) = l names b in omega arith

  -- what comes of the first step that is left, where it gives nothing more
  stops : (proper : Bool) → count < limit
      → ((names : List (List ℕ)) (b : Beside) (fuel : ℕ) → spread (suc fuel) (state names old b).state h.seen (value_of_word names left) ≡ record { elements = []; proper = proper })
      → IsSpread old now list (record { count = count; proper = proper })
  stops proper k e = record {
    more = h.more;
    pushed = h.pushed;
    count_is = h.count_is;
    spread_is = λ names b.
        ap (λ n. spread n (state names old b).state [] (value_of_word names list)) (steps_left k names b)
        ∙ h.left_is names b (suc (limit - count - 1))
        ∙ ap (behind (values_of names h.more)) (e names b (limit - count - 1))
        ∙ ap (λ xs. record { elements = xs; proper = proper }) (append-nil (values_of names h.more));
  }

  pub spread_ended : (proper : Bool) → count < limit → ListEnds now.store left proper → IsSpread old now list (record { count = count; proper = proper })
  spread_ended proper k e =
      let here : ListEnds old.store left proper = subst (λ s. ListEnds s left proper) (same_store old now h.more h.pushed) e in
      stops proper k (λ names b fuel. here.ends names (record b { frame = frame_slots names old.current old.slots.items }) (λ i d. spread fuel (state names old b).state (i ∷ h.seen) d) h.seen)

  pub spread_repeated : (n : ℕ) (car cdr : Word) → count < limit → ListGoesOn now.store left n car cdr → member n ≡ true → IsSpread old now list (record { count = count; proper = false })
  spread_repeated n car cdr k g f =
      let here : ListGoesOn old.store left n car cdr = subst (λ s. ListGoesOn s left n car cdr) (same_store old now h.more h.pushed) g in
      stops false k (λ names b fuel. spread_again (state names old b).state fuel n h.seen (value_of_word names left) (value_of_word names car) (value_of_word names cdr)
      (ap (value_of_word names) here.is_object) (here.there names (record b { frame = frame_slots names old.current old.slots.items })) (sym (h.members n) ∙ f))

  -- none is left
  pub spread_exhausted : count ≡ limit → IsSpread old now list (record { count = count; proper = false })
  spread_exhausted k = record {
    more = h.more;
    pushed = h.pushed;
    count_is = h.count_is;
    spread_is = λ names b.
        let e : length (state names old b).state.store + 1 ≡ count + 0 = (let d : limit ≡ suc (length (state names old b).state.store) = l names b in omega arith) in
        ap (λ n. spread n (state names old b).state [] (value_of_word names list)) e
        ∙ h.left_is names b 0
        ∙ ap (λ xs. record { elements = xs; proper = false }) (append-nil (values_of names h.more));
  }

-- a function is applied to the elements
abbrev pub on_elements : Setting → Value → Value → Spread → (level : ℕ) → DynamicContext → List ContinuationFrame → FlatState → Configuration
on_elements s f list x level around frames z =
    if x.proper then apply_value s f x.elements level around frames (charged (length x.elements) z)
    else signal_domain s list list_class level around frames (charged (length x.elements) z)

module _ (names : List (List ℕ)) (s : Setting) (b : Beside) (old : Machine) (f list : Word) (t : Situation) where
  -- what is applied to a list
  abbrev pub list_applied_at : ℕ → DynamicContext → Bool → Spread → Configuration
  list_applied_at level around is x =
      if is then on_elements s (value_of_word names f) (value_of_word names list) x level around (frames names old 0) (state names old b)
      else signal_domain s (value_of_word names f) function_class level around (frames names old 0) (state names old b)

  is_applied : (is : Bool) (x : Spread) → is_function (fetch (state names old b).state (value_of_word names f)) ≡ is
      → spread (length (state names old b).state.store + 1) (state names old b).state [] (value_of_word names list) ≡ x
      → list_applied_at t.level (dynamic_context names old t.around) is x
      ≡ apply_step s (value_of_word names f) (value_of_word names list) (at names old t) (frames names old 0) (state names old b)
  is_applied is x e h =
      ap (λ k. list_applied_at k (dynamic_context names old t.around) is x) (level_at names old t)
      ∙ ap (λ k. list_applied_at (at names old t).level k is x) (around_at names old t)
      ∙ ap (λ k. list_applied_at (at names old t).level (at names old t).around is k) (sym h)
      ∙ ap (λ k. list_applied_at (at names old t).level (at names old t).around k (spread (length (state names old b).state.store + 1) (state names old b).state [] (value_of_word names list))) (sym e)

-- as many elements as operands
so_many_elements : (names : List (List ℕ)) (ws : List Word) (n : ℕ) → n ≡ length ws → n ≡ length (values_of names ws)
so_many_elements names ws n e = e ∙ sym (length-map ws (value_of_word names))

pub list_applied : (old mid counted new : Machine) (f list : Word) (x : Pushed) (t : Situation) → ((names : List (List ℕ)) (b : Beside) → is_function (fetch (state names old b).state (value_of_word names f)) ≡ true)
    → IsSpread old mid list x → x.proper ≡ true → IsCharged mid counted x.count
    → StepsTo counted new (λ names s b. apply_value s (value_of_word names f) (top names counted x.count) t.level (dynamic_context names counted t.around) (frames names counted x.count) (state names counted b))
    → StepsTo old new (λ names s b. apply_step s (value_of_word names f) (value_of_word names list) (at names old t) (frames names old 0) (state names old b))
list_applied old mid counted new f list x t is p proper k s =
    let on : StepsTo mid new (λ names s b. apply_value s (value_of_word names f) (top names mid x.count) t.level (dynamic_context names mid t.around) (frames names mid x.count) (charged x.count (state names mid b))) =
    after_store mid counted new (λ m names s z. apply_value s (value_of_word names f) (top names m x.count) t.level (dynamic_context names m t.around) (frames names m x.count) z) (λ names z. charged x.count z) k.same k.state_is s in
    let all : StepsTo old new (λ names s b. apply_value s (value_of_word names f) (values_of names p.more) t.level (dynamic_context names old t.around) (frames names old 0) (charged x.count (state names old b))) =
    then_arguments old mid new p.more x.count t.around (λ names s vs around frames z. apply_value s (value_of_word names f) vs t.level around frames (charged x.count z)) p.pushed p.count_is on in
    same_configuration old new _ _ all (λ names b g.
    ap (λ n. apply_value (setting_of names old.given) (value_of_word names f) (values_of names p.more) t.level (dynamic_context names old t.around) (frames names old 0) (charged n (state names old b))) (so_many_elements names p.more x.count p.count_is)
    ∙ ap (λ q. list_applied_at names (setting_of names old.given) b old f list t t.level (dynamic_context names old t.around) true (record { elements = values_of names p.more; proper = q })) (sym proper)
    ∙ is_applied names (setting_of names old.given) b old f list t true (record { elements = values_of names p.more; proper = x.proper }) (is names b) (p.spread_is names b))

pub list_not_proper : (old mid counted dropped new : Machine) (f list : Word) (x : Pushed) (t : Situation) → ((names : List (List ℕ)) (b : Beside) → is_function (fetch (state names old b).state (value_of_word names f)) ≡ true)
    → IsSpread old mid list x → x.proper ≡ false → IsCharged mid counted x.count → IsDropped counted dropped x.count
    → StepsTo dropped new (λ names s b. signal_domain s (value_of_word names list) list_class t.level (dynamic_context names dropped t.around) (frames names dropped 0) (state names dropped b))
    → StepsTo old new (λ names s b. apply_step s (value_of_word names f) (value_of_word names list) (at names old t) (frames names old 0) (state names old b))
list_not_proper old mid counted dropped new f list x t is p proper k d s =
    let fewer : StepsTo counted new (λ names s b. signal_domain s (value_of_word names list) list_class t.level (dynamic_context names counted t.around) (frames names counted x.count) (state names counted b)) =
    then_dropped counted dropped new x.count t.around (λ names s around frames z. signal_domain s (value_of_word names list) list_class t.level around frames z) d s in
    let on : StepsTo mid new (λ names s b. signal_domain s (value_of_word names list) list_class t.level (dynamic_context names mid t.around) (frames names mid x.count) (charged x.count (state names mid b))) =
    after_store mid counted new (λ m names s z. signal_domain s (value_of_word names list) list_class t.level (dynamic_context names m t.around) (frames names m x.count) z) (λ names z. charged x.count z) k.same k.state_is fewer in
    let all : StepsTo old new (λ names s b. signal_domain s (value_of_word names list) list_class t.level (dynamic_context names old t.around) (frames names old 0) (charged x.count (state names old b))) =
    then_arguments old mid new p.more x.count t.around (λ names s vs around frames z. signal_domain s (value_of_word names list) list_class t.level around frames (charged x.count z)) p.pushed p.count_is on in
    same_configuration old new _ _ all (λ names b g.
    ap (λ n. signal_domain (setting_of names old.given) (value_of_word names list) list_class t.level (dynamic_context names old t.around) (frames names old 0) (charged n (state names old b))) (so_many_elements names p.more x.count p.count_is)
    ∙ ap (λ q. list_applied_at names (setting_of names old.given) b old f list t t.level (dynamic_context names old t.around) true (record { elements = values_of names p.more; proper = q })) (sym proper)
    ∙ is_applied names (setting_of names old.given) b old f list t true (record { elements = values_of names p.more; proper = x.proper }) (is names b) (p.spread_is names b))

pub no_function_applied : (old new : Machine) (f list : Word) (t : Situation) → ((names : List (List ℕ)) (b : Beside) → is_function (fetch (state names old b).state (value_of_word names f)) ≡ false)
    → StepsTo old new (λ names s b. signal_domain s (value_of_word names f) function_class t.level (dynamic_context names old t.around) (frames names old 0) (state names old b))
    → StepsTo old new (λ names s b. apply_step s (value_of_word names f) (value_of_word names list) (at names old t) (frames names old 0) (state names old b))
no_function_applied old new f list t is s =
    same_configuration old new _ _ s (λ names b g.
    is_applied names (setting_of names old.given) b old f list t false (spread (length (state names old b).state.store + 1) (state names old b).state [] (value_of_word names list)) (is names b) refl)

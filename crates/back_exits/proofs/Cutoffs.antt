-- The valid exits around a cleanup during a transfer: those from the target on.
use Rattle.std.proofs.Common.{◌≡◌, ℕ, ◌<◌, ◌≤◌, Bool, true, false, List, [], ◌∷◌, Some, None, refl, sym, ap, ◌∙◌, subst, arith}
use Rattle.std.specs.Prelude.{◌==◌, if◌then◌else◌}
use Rattle.std.proofs.lemmas.Bool.{eqb-true, ne_eqb}
use Rattle.lang_meaning.specs.State.{DynamicContext, Exit, exits_from}
use Rattle.flat_language.specs.FlatState.{FlatState}
use Rattle.mid_code.specs.State.{MidState}
use Rattle.back_lowering.specs.ControlWords.{end_address}
use Rattle.back_relation.specs.Setting.{Setting}
use Rattle.back_relation.specs.Worlds.{World, Later, Standing, Links, EndsAtEnd, record_of_exit}
use Rattle.back_relation.specs.StackWords.{HasWordAt}
use Rattle.back_relation.specs.Around.{AroundStands}
use Rattle.back_relation.proofs.Worlds.{Same, deeper_same, stack_same, record_stays, handlers_stay, bindings_stay, chain_lower}
use Rattle.back_exits.specs.Inside.{around_with}
use Rattle.back_exits.specs.RecordSteps.{ControlSays}

-- the number of a valid exit is below the bound
pub found_number : (rs : List Standing) (p m e : ℕ) (xs : List Exit) (vs : List Standing) (t : Standing) → Links rs p m xs vs → record_of_exit e xs vs ≡ Some t → e < m
found_number rs p m e [] [] t l f = absurd (cc f)
found_number rs p m e [] (v ∷ vs) t l f = absurd l
found_number rs p m e (x ∷ xs) [] t l f = absurd l
found_number rs p m e (x ∷ xs) (v ∷ vs) t l f = by (x.number == e) refl f (λ g. found_number rs v.link x.number e xs vs t l.4 g)
  where
    by : (b : Bool) → (x.number == e) ≡ b → (if b then Some v else record_of_exit e xs vs) ≡ Some t → (record_of_exit e xs vs ≡ Some t → e < x.number) → e < m
    by true same g inner = let number : x.number ≡ e = eqb-true x.number e same in let low : x.number < m = l.3 in omega (arith, number, low)
    by false same g inner = let low : x.number < m = l.3 in omega (arith, inner g, low)

-- the links from the record of a valid exit, and what is found along them
pub record LinksFrom (rs : List Standing) (e below : ℕ) (xs : List Exit) (vs : List Standing) (t : Standing) : Type 0 where
  pub valid : List Standing
  pub links : Links rs t.address below (exits_from e xs) valid
  pub target : record_of_exit e (exits_from e xs) valid ≡ Some t
  pub outer : (i : ℕ) (r : Standing) → record_of_exit i (exits_from e xs) valid ≡ Some r → record_of_exit i xs vs ≡ Some r
  pub inner : (i : ℕ) (r : Standing) → i ≤ e → record_of_exit i xs vs ≡ Some r → record_of_exit i (exits_from e xs) valid ≡ Some r

pub links_cut :
    (rs : List Standing) (p m n e : ℕ) (xs : List Exit) (vs : List Standing) (t : Standing) → m ≤ n → Links rs p m xs vs → record_of_exit e xs vs ≡ Some t → LinksFrom rs e n xs vs t
links_cut rs p m n e [] [] t h l f = absurd (cc f)
links_cut rs p m n e [] (v ∷ vs) t h l f = absurd l
links_cut rs p m n e (x ∷ xs) [] t h l f = absurd l
links_cut rs p m n e (x ∷ xs) (v ∷ vs) t h l f =
    by (x.number == e) refl f (λ g. links_cut rs v.link x.number n e xs vs t (let low : x.number < m = l.3 in omega (arith, low, h)) l.4 g)
  where
    by : (b : Bool) → (x.number == e) ≡ b → (if b then Some v else record_of_exit e xs vs) ≡ Some t → (record_of_exit e xs vs ≡ Some t → LinksFrom rs e n xs vs t) → LinksFrom rs e n (x ∷ xs) (v ∷ vs) t
    by true same g inner =
        let is : v ≡ t = cc g in
        let low : x.number < m = l.3 in
        let all : exits_from e (x ∷ xs) ≡ x ∷ xs = ap (λ b. if b then x ∷ xs else exits_from e xs) same in
        record {
          valid = v ∷ vs;
          links = subst (λ ys. Links rs t.address n ys (v ∷ vs)) (sym all) (ap (λ (r : Standing). r.address) (sym is), l.1, l.2, omega (arith, low, h), l.4);
          target = ap (λ ys. record_of_exit e ys (v ∷ vs)) all ∙ ap (λ b. if b then Some v else record_of_exit e xs vs) same ∙ g;
          outer = λ i r k. sym (ap (λ ys. record_of_exit i ys (v ∷ vs)) all) ∙ k;
          inner = λ i r few k. ap (λ ys. record_of_exit i ys (v ∷ vs)) all ∙ k;
        }
    by false same g inner =
        let rest = inner g in
        let number = found_number rs v.link x.number e xs vs t l.4 g in
        let all : exits_from e (x ∷ xs) ≡ exits_from e xs = ap (λ b. if b then x ∷ xs else exits_from e xs) same in
        record {
          valid = rest.valid;
          links = subst (λ ys. Links rs t.address n ys rest.valid) (sym all) rest.links;
          target = ap (λ ys. record_of_exit e ys rest.valid) all ∙ rest.target;
          outer = λ i r k.
              let found = rest.outer i r (sym (ap (λ ys. record_of_exit i ys rest.valid) all) ∙ k) in
              let below = found_number rs v.link x.number i xs vs r l.4 found in
              ap (λ b. if b then Some v else record_of_exit i xs vs) (ne_eqb x.number i (λ u. omega (arith, u, below))) ∙ found;
          inner = λ i r few k.
              let other : (x.number == i) ≡ false = ne_eqb x.number i (λ u. omega (arith, u, number, few)) in
              ap (λ ys. record_of_exit i ys rest.valid) all ∙ rest.inner i r few (sym (ap (λ b. if b then Some v else record_of_exit i xs vs) other) ∙ k);
        }

ends_from : (e : ℕ) (xs : List Exit) (vs : List Standing) (t : Standing) → record_of_exit e xs vs ≡ Some t → EndsAtEnd xs → EndsAtEnd (exits_from e xs)
ends_from e [] vs t f h = absurd h
ends_from e (x ∷ xs) [] t f h = absurd (cc f)
ends_from e (x ∷ []) (v ∷ vs) t f h = by (x.number == e) f
  where
    by : (b : Bool) → (if b then Some v else record_of_exit e [] vs) ≡ Some t → EndsAtEnd (if b then x ∷ [] else exits_from e [])
    by true g = h
    by false g = absurd (cc g)
ends_from e (x ∷ y ∷ ys) (v ∷ vs) t f h = by (x.number == e) f (λ g. ends_from e (y ∷ ys) vs t g h.1)
  where
    by : (b : Bool) → (if b then Some v else record_of_exit e (y ∷ ys) vs) ≡ Some t → (record_of_exit e (y ∷ ys) vs ≡ Some t → EndsAtEnd (exits_from e (y ∷ ys)))
        → EndsAtEnd (if b then x ∷ y ∷ ys else exits_from e (y ∷ ys))
    by true g inner = h
    by false g inner = inner g

-- **what is around a cleanup during a transfer**: the exits from the target on, with the target's record as the link
module _ (setting : Setting) {w w' : World} {rs valid : List Standing} {around : DynamicContext} {z : FlatState} (z' : FlatState) {y y' : MidState} (e : ℕ) (target : Standing) (later : Later w w') (h : Same w w' y y')
    (more : z.state.exits ≤ z'.state.exits) (t : AroundStands setting w rs valid around z y) (found : record_of_exit e around.exits valid ≡ Some target)
    (end : (n : ℕ) → HasWordAt y end_address n → HasWordAt y' end_address n) (says : ControlSays y'.arena t.current target.address t.handlers_cell t.bindings_cell) where
  pub cutoff : LinksFrom rs e z'.state.exits around.exits valid target
  cutoff = links_cut rs t.link z.state.exits z'.state.exits e around.exits valid target more t.links found

  pub around_during : AroundStands setting w' rs cutoff.valid (around_with (exits_from e around.exits) around) z' y'
  around_during = record {
    current = t.current;
    link = target.address;
    handlers_cell = t.handlers_cell;
    bindings_cell = t.bindings_cell;
    current_word = says.current_word;
    link_word = says.link_word;
    handlers_word = says.handlers_word;
    bindings_word = says.bindings_word;
    chain = chain_lower _ _ t.current rs (let same = stack_same h in omega (arith, same)) t.chain;
    records = λ r i. record_stays later (deeper_same h) r (t.records r i);
    links = cutoff.links;
    handlers = handlers_stay later (deeper_same h) around.handlers t.handlers_cell t.handlers;
    bindings = bindings_stay later (deeper_same h) setting around.bindings t.bindings_cell t.bindings;
    ends_at_end = ends_from e around.exits valid target found t.ends_at_end;
    end_record = t.end_record;
    end_valid = cutoff.inner 0 t.end_record (omega arith) t.end_valid;
    end_word = end t.end_record.address t.end_word;
    end_form = later.exit_forms 0 None t.end_form;
    tags_land = λ x v i role tagged. later.exit_forms x.number None (t.tags_land x v i role tagged);
  }

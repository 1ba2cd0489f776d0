-- What the walk makes of the parts of a form is what it makes of the form.
use Rattle.std.proofs.Common.{◌≡◌, ℕ, ◌+◌, List, [], ◌++◌, refl, sym, ap, subst, ◌∙◌, length, drop, arith, append_assoc}
use Rattle.std.proofs.lemmas.List.{append-nil}
use Rattle.std.specs.Prelude.{Result, IfOk}
use Rattle.base.specs.declared.faults.NoMemory.{NoMemory}
use Rattle.flat_language.specs.declared.program.FlatProcedure.{FlatProcedure}
use Rattle.flat_language.specs.Scope.{Scope, with_around}
use Rattle.flat_language.specs.bridge.Counted.{joined}
use Rattle.flat_conversion.specs.declared.places.Places.{Places}
use Rattle.flat_conversion.specs.declared.progress.Progress.{Progress}
use Rattle.flat_conversion.specs.declared.variables.Binder.{Binder}
use Rattle.flat_conversion.specs.Places.{scope_of, places_around}
use Rattle.flat_language.specs.FlatForm.{FlatForm}
use Rattle.lang_meaning.specs.Form.{Form}
use Rattle.flat_language.specs.Flatten.{flat, inner_procedures}
use Rattle.flat_language.specs.declared.flat_core.FlatCoreForm.{FlatCoreForm}
use Rattle.flat_language.specs.model.View.{view_form}
use Rattle.flat_conversion.specs.Shapes.{IsFlattened}
use Rattle.flat_conversion.specs.Makes.{MakesSo, Makes, MakesForm}

-- seen as something else
pub viewed : {X Y : Type 0} (h : X → Y) (one : ℕ → X) (inside : ℕ → List FlatProcedure) (other : ℕ → Y) (behind : ℕ → List FlatProcedure) (table : List Binder) (before after : Progress) (made : X) (rest : List Binder)
    → ((n : ℕ) → h (one n) ≡ other n) → ((n : ℕ) → inside n ≡ behind n) → MakesSo one inside table before after made rest → MakesSo other behind table before after (h made) rest
viewed h one inside other behind table before after made rest same alike g = record {
  made_so = ap h g.made_so ∙ same (length before.lambdas);
  inside_so = g.inside_so ∙ ap (λ ys. before.lambdas ++ ys) (alike (length before.lambdas));
  left_so = g.left_so;
}

-- two things, one after another
pub both_so : {X Y : Type 0} (one : ℕ → X) (inside : ℕ → List FlatProcedure) (other : ℕ → Y) (behind : ℕ → List FlatProcedure) (count : ℕ)
    (table : List Binder) (before between after : Progress) (made : X) (more : Y) (middle rest : List Binder)
    → ((n : ℕ) → length (inside n) ≡ count) → MakesSo one inside table before between made middle → MakesSo other behind table between after more rest
    → MakesSo {X = X × Y} (λ n. (one n, other (n + count))) (λ n. inside n ++ behind (n + count)) table before after (made, more) rest
both_so {X} {Y} one inside other behind count table before between after made more middle rest counted g h =
    let n = length before.lambdas in
    let k : length between.lambdas ≡ n + count = ap length g.inside_so ∙ joined before.lambdas (inside n) n count refl (counted n) in
    record {
      made_so = ap (λ x. (x, more)) g.made_so ∙ ap (λ y. (one n, y)) (h.made_so ∙ ap other k);
      inside_so =
          h.inside_so
          ∙ ap (λ m. between.lambdas ++ behind m) k
          ∙ ap (λ ys. ys ++ behind (n + count)) g.inside_so
          ∙ append_assoc before.lambdas (inside n) (behind (n + count));
      left_so = h.left_so;
    }

-- what has no parts
pub alone : {X : Type 0} (one : Scope → ℕ → X) (table : List Binder) (p : Places) (before : Progress) (made : X)
    → made ≡ one (scope_of p) (length before.lambdas) → Makes one (λ s n. []) (λ rest. rest) table p p before before made
alone one table p before made e = record {
  same = refl;
  longer = omega arith;
  so = λ rest h. record { made_so = e; inside_so = sym (append-nil before.lambdas); left_so = h };
}

-- what is made of something that is made
pub mapped : {X Y : Type 0} (h : Scope → X → Y) (one : Scope → ℕ → X) (inside : Scope → ℕ → List FlatProcedure) (front : List Binder → List Binder) (table : List Binder) (p q : Places) (before after : Progress) (made : X)
    → Makes one inside front table p q before after made → Makes (λ s n. h s (one s n)) inside front table p q before after (h (scope_of p) made)
mapped h one inside front table p q before after made g = record {
  same = g.same;
  longer = g.longer;
  so = λ rest e. viewed (h (scope_of p)) (one (scope_of p)) (inside (scope_of p)) (λ n. h (scope_of p) (one (scope_of p) n)) (inside (scope_of p)) table before after made rest (λ n. refl) (λ n. refl) (g.so rest e);
}

-- and where the places around are as they were
pub both : {X Y : Type 0} (one : Scope → ℕ → X) (inside : Scope → ℕ → List FlatProcedure) (front : List Binder → List Binder) (other : Scope → ℕ → Y) (behind : Scope → ℕ → List FlatProcedure) (next : List Binder → List Binder) (count : ℕ)
    (table : List Binder) (p q r : Places) (before between after : Progress) (made : X) (more : Y)
    → ((s : Scope) (n : ℕ) → length (inside s n) ≡ count) → Makes one inside front table p q before between made → Makes other behind next table q r between after more
    → Makes {X = X × Y} (λ s n. (one s n, other s (n + count))) (λ s n. inside s n ++ behind s (n + count)) (λ rest. front (next rest)) table p r before after (made, more)
both one inside front other behind next count table p q r before between after made more counted g h = record {
  same = h.same ∙ g.same;
  longer = omega (arith, g.longer, h.longer);
  so = λ rest e.
      let s = scope_of p in
      let a = g.so (next rest) e in
      let b = h.so rest a.left_so in
      both_so (one s) (inside s) (other s) (behind s) count table before between after made more (next rest) rest (counted s) a
      (viewed (λ y. y) (other (scope_of q)) (behind (scope_of q)) (other s) (behind s) table between after more rest (λ n. ap (λ w. other (scope_of w) n) g.same) (λ n. ap (λ w. behind (scope_of w) n) g.same) b);
}

-- inside a block or a tagbody
pub around : {X : Type 0} (one : Scope → ℕ → X) (inside : Scope → ℕ → List FlatProcedure) (front : List Binder → List Binder) (x : ℕ) (table : List Binder) (p q r t : Places) (before after : Progress) (made : X)
    → q ≡ places_around x p → t ≡ (let left : Places = record r { exits = drop 1 r.exits; own_exits = p.own_exits } in left) → Makes one inside front table q r before after made
    → Makes (λ s n. one (with_around x s) n) (λ s n. inside (with_around x s) n) front table p t before after made
around one inside front x table p q r t before after made entered gone g = record {
  same = gone ∙ ap (λ (w : Places). let left : Places = record w { exits = drop 1 w.exits; own_exits = p.own_exits } in left) (g.same ∙ entered);
  longer = g.longer;
  so = λ rest e.
      viewed (λ y. y) (one (scope_of q)) (inside (scope_of q)) (λ n. one (with_around x (scope_of p)) n) (λ n. inside (with_around x (scope_of p)) n) table before after made rest
      (λ n. ap (λ w. one (scope_of w) n) entered) (λ n. ap (λ w. inside (scope_of w) n) entered) (g.so rest e);
}

-- in the scope that those places are
pub seen_in : {X : Type 0} (one : Scope → ℕ → X) (inside : Scope → ℕ → List FlatProcedure) (front : List Binder → List Binder) (table : List Binder) (s : Scope) (p q : Places) (before after : Progress) (made : X)
    → scope_of p ≡ s → Makes one inside front table p q before after made → (rest : List Binder) → drop before.binders table ≡ front rest → MakesSo (one s) (inside s) table before after made rest
seen_in one inside front table s p q before after made same g = λ rest e.
    viewed (λ y. y) (one (scope_of p)) (inside (scope_of p)) (one s) (inside s) table before after made rest
    (λ n. ap (λ t. one t n) same) (λ n. ap (λ t. inside t n) same) (g.so rest e)

-- in that of places that are the same
pub seen_from : {X : Type 0} (one : Scope → ℕ → X) (inside : Scope → ℕ → List FlatProcedure) (front : List Binder → List Binder) (table : List Binder) (w p q : Places) (before after : Progress) (made : X)
    → p ≡ w → Makes one inside front table p q before after made → (rest : List Binder) → drop before.binders table ≡ front rest → MakesSo (one (scope_of w)) (inside (scope_of w)) table before after made rest
seen_from one inside front table w p q before after made same g = seen_in one inside front table (scope_of w) p q before after made (ap scope_of same) g

-- behind a binder that is passed
pub passed : {X : Type 0} (one : ℕ → X) (inside : ℕ → List FlatProcedure) (table : List Binder) (before between after : Progress) (made : X) (rest : List Binder)
    → between.lambdas ≡ before.lambdas → MakesSo one inside table between after made rest → MakesSo one inside table before after made rest
passed one inside table before between after made rest e g = record {
  made_so = g.made_so ∙ ap (λ (l : List FlatProcedure). one (length l)) e;
  inside_so = g.inside_so ∙ ap (λ (l : List FlatProcedure). l ++ inside (length l)) e;
  left_so = g.left_so;
}

-- a form, of what is made of its parts
pub formed : {X : Type 0} (f : Form) (make : X → FlatForm) (one : Scope → ℕ → X) (inside : Scope → ℕ → List FlatProcedure) (front : List Binder → List Binder) (table : List Binder) (p q : Places) (before after : Progress) (part : X) (made : FlatForm)
    → Makes one inside front table p q before after part → made ≡ make part
    → IsFlattened f (scope_of p) (λ n. make (one (scope_of p) n)) (inside (scope_of p)) front → MakesForm f table p q before after made
formed f make one inside front table p q before after part made g is so = record {
  same = g.same;
  longer = g.longer;
  so = λ rest e.
      let s = scope_of p in
      let m = viewed make (one s) (inside s) (λ n. flat s n f) (λ n. inner_procedures s n f) table before after part rest so.same so.alike (g.so rest (e ∙ so.ahead rest)) in
      record { made_so = is ∙ m.made_so; inside_so = m.inside_so; left_so = m.left_so };
}

-- of parts that are the same
pub at_form : (f g : Form) (table : List Binder) (p q : Places) (before after : Progress) (made : FlatForm) → f ≡ g → MakesForm f table p q before after made → MakesForm g table p q before after made
at_form f g table p q before after made e h = let P : Form → Type 0 = λ x. MakesForm x table p q before after made in subst P e h

-- where one is made at all
pub at_ok : (f g : Form) (table : List Binder) (p q : Places) (before after : Progress) (r : Result FlatCoreForm NoMemory)
    → f ≡ g → IfOk r (λ made. MakesForm f table p q before after (view_form made)) → IfOk r (λ made. MakesForm g table p q before after (view_form made))
at_ok f g table p q before after r e h = let P : Form → Type 0 = λ x. IfOk r (λ made. MakesForm x table p q before after (view_form made)) in subst P e h

-- Facts between two states that each step of a run keeps.
use Rattle.std.proofs.Common.{◌≡◌, ◌≤◌, ℕ, ◌+◌, List, [], ◌∷◌, ◌++◌, refl, sym, ap, subst, ◌∙◌, arith, append_assoc, append-nil, le_refl, le_trans}
use Rattle.std.specs.Prelude.{slice_set}
use Rattle.lang_meaning.specs.Laws.{IsLater, Falling, MakesNewExits}
use Rattle.lang_meaning.specs.Prefixes.{IsPrefix}
use Rattle.lang_meaning.specs.Values.{Value}
use Rattle.lang_meaning.specs.Objects.{Object}
use Rattle.lang_meaning.specs.State.{State, charged, with_words, stored, changed, exit_made}
use Rattle.lang_meaning.specs.Lookup.{with_values}

-- a relation between an earlier and a later state that holds of no step, of two one after another, and of each
-- step that a rule makes
pub record IsKeptByRules (R : State → State → Type 0) : Type 0 where
  pub prefix : {a b : State} → R a b → IsPrefix a.printed b.printed
  pub none : (z : State) → R z z
  pub both : {a b c : State} → R a b → R b c → R a c
  pub charge : (n : ℕ) (z : State) → R z (charged n z)
  pub words : (heap stack : ℕ) (z : State) → R z (with_words heap stack z)
  pub stack : (n : ℕ) (z : State) → R z (record z { stack = n })
  pub store : (o : Object) (z : State) → R z (stored o z)
  pub change : (i : ℕ) (o : Object) (z : State) → R z (changed i o z)
  pub print : (c : ℕ) (z : State) → R z (record z { printed = z.printed ++ c ∷ [] })
  pub exit : (z : State) → R z (exit_made z)
  pub symbol : (z : State) → R z (record z { symbols = z.symbols + 1 })
  pub input : (left : List ℕ) (z : State) → R z (record z { input = left })
  pub values : (vs : List Value) (z : State) → R z (with_values vs z)
  pub set : (i : ℕ) (v : Value) (z : State) → R z (record z { variables = slice_set z.variables i v })
  pub globals : (now : List (List ℕ × Value)) (z : State) → R z (record z { globals = now })
  pub dynamics : (now : List (List ℕ × Value)) (z : State) → R z (record z { dynamics = now })

pub prefix_of_itself : (xs : List ℕ) → IsPrefix xs xs
prefix_of_itself xs = record { rest = []; is = append-nil xs }

pub prefix_of_prefix : {xs ys zs : List ℕ} → IsPrefix xs ys → IsPrefix ys zs → IsPrefix xs zs
prefix_of_prefix {xs} {ys} {zs} b c = record {
  rest = b.rest ++ c.rest;
  is = sym (append_assoc xs b.rest c.rest) ∙ ap (λ us. us ++ c.rest) b.is ∙ c.is;
}

pub prefix_of_longer : (xs : List ℕ) (c : ℕ) → IsPrefix xs (xs ++ c ∷ [])
prefix_of_longer xs c = record { rest = c ∷ []; is = refl }

-- a later state, with exits of new numbers
pub record GrowsAnew (a b : State) : Type 0 where
  pub later : IsLater a b
  pub exits : MakesNewExits a b

more_exits : {a b c : State} → MakesNewExits a b → MakesNewExits b c → MakesNewExits a c
more_exits {a} {b} {c} x y = record {
  new = y.new ++ x.new;
  kept = y.kept ∙ ap (λ ns. y.new ++ ns) x.kept ∙ sym (append_assoc y.new x.new a.made);
  differ = λ h. y.differ (x.differ h);
}

both_grow : {a b c : State} → GrowsAnew a b → GrowsAnew b c → GrowsAnew a c
both_grow g h = record {
  later = record {
    printed = prefix_of_prefix g.later.printed h.later.printed;
    units = le_trans g.later.units h.later.units;
    peak = le_trans g.later.peak h.later.peak;
    exits = le_trans g.later.exits h.later.exits;
    symbols = le_trans g.later.symbols h.later.symbols;
  };
  exits = more_exits g.exits h.exits;
}

-- a state with more bytes, units, words and fresh symbols, and the same exits
grown : {a b : State} → IsPrefix a.printed b.printed → a.units ≤ b.units → a.peak ≤ b.peak → a.symbols ≤ b.symbols
    → b.exits ≡ a.exits → b.made ≡ a.made → GrowsAnew a b
grown {a} {b} p u k s e m = record {
  later = record { printed = p; units = u; peak = k; exits = subst (λ n. a.exits ≤ n) (sym e) (le_refl a.exits); symbols = s };
  exits = record {
    new = [];
    kept = m;
    differ = λ h. subst (λ n. Falling n b.made) (sym e) (subst (λ ns. Falling a.exits ns) (sym m) h);
  };
}

-- a state in which none of this is changed
same : {a b : State} → b.printed ≡ a.printed → b.units ≡ a.units → b.peak ≡ a.peak → b.symbols ≡ a.symbols
    → b.exits ≡ a.exits → b.made ≡ a.made → GrowsAnew a b
same {a} {b} p u k s e m =
    grown (subst (IsPrefix a.printed) (sym p) (prefix_of_itself a.printed)) (subst (λ n. a.units ≤ n) (sym u) (le_refl a.units))
    (subst (λ n. a.peak ≤ n) (sym k) (le_refl a.peak)) (subst (λ n. a.symbols ≤ n) (sym s) (le_refl a.symbols)) e m

exit_grows : (z : State) → GrowsAnew z (exit_made z)
exit_grows z = record {
  later = record {
    printed = prefix_of_itself z.printed;
    units = le_refl z.units;
    peak = le_refl z.peak;
    exits = omega arith;
    symbols = le_refl z.symbols;
  };
  exits = record { new = z.exits ∷ []; kept = refl; differ = λ h. (omega arith, h) };
}

-- nothing of what is counted falls, and no number of an exit is used twice
pub anew_kept : IsKeptByRules GrowsAnew
anew_kept = record {
  prefix = λ g. g.later.printed;
  none = λ z. same refl refl refl refl refl refl;
  both = both_grow;
  charge = λ n z. grown (prefix_of_itself z.printed) (omega arith) (le_refl z.peak) (le_refl z.symbols) refl refl;
  words = λ h s z. grown (prefix_of_itself z.printed) (le_refl z.units) (omega arith) (le_refl z.symbols) refl refl;
  stack = λ n z. same refl refl refl refl refl refl;
  store = λ o z. same refl refl refl refl refl refl;
  change = λ i o z. same refl refl refl refl refl refl;
  print = λ c z. grown (prefix_of_longer z.printed c) (le_refl z.units) (le_refl z.peak) (le_refl z.symbols) refl refl;
  exit = exit_grows;
  symbol = λ z. grown (prefix_of_itself z.printed) (le_refl z.units) (le_refl z.peak) (omega arith) refl refl;
  input = λ left z. same refl refl refl refl refl refl;
  values = λ vs z. same refl refl refl refl refl refl;
  set = λ i v z. same refl refl refl refl refl refl;
  globals = λ now z. same refl refl refl refl refl refl;
  dynamics = λ now z. same refl refl refl refl refl refl;
}

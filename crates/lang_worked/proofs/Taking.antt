-- A form of a text is taken, or refused, by what it comes to under its names and any later ones.
use Rattle.std.proofs.Common.{◌≡◌, ℕ, nat_le, true, List, ◌++◌, Some, refl, sym, subst, inl, leb-true}
use Rattle.base.specs.declared.origin.Origin.{Origin}
use Rattle.base.specs.declared.place.Place.{Place}
use Rattle.base.specs.declared.reason.Reason.{Reason}
use Rattle.base.specs.Data.{Item}
use Rattle.lang_meaning.specs.Form.{Form}
use Rattle.front_profile.specs.declared.tables.Tables.{Tables}
use Rattle.front_profile.specs.Cuts.{opened}
use Rattle.front_profile.specs.Nodes.{StaticContext, refused, Verdict, stands, ended}
use Rattle.front_profile.specs.Rows.{node}
use Rattle.front_profile.specs.Judged.{Elaborates}
use Rattle.front_profile.specs.Promises.{FormComes}
use Rattle.front_scope.specs.Scopes.{top, with_main, nodes_of, most_nodes, cells_of, most_cells}
use Rattle.front_files.specs.declared.mode.Mode.TheVariants.{Run}
use Rattle.front_files.specs.Shown.{runs}
use Rattle.front_files.specs.Verdicts.{FormTaken, FormRefused}
use Rattle.lang_worked.proofs.Judging.{comes_to, comes}

-- what is found under the names and any more
abbrev pub ComesByTest : List (List ℕ) → StaticContext → Tables → Item → Verdict → Type 0
ComesByTest names a s d v = (more : List (List ℕ)) → comes_to 100 (names ++ more) (node (names ++ more) a s d) ≡ Some v

form_comes : (names : List (List ℕ)) (a : StaticContext) (s : Tables) (d : Item) (v : Verdict) → ComesByTest names a s d v → FormComes names a s d v
form_comes names a s d v found = record {
  under = λ later e.
      subst (λ (ns : List (List ℕ)). Elaborates ns (node ns a s d) v) (sym e.begins) (comes 100 _ _ v (found e.added));
}

pub taken : (names : List (List ℕ)) (origin : Origin) (s : Tables) (d : Item) (after : List ℕ) (f : Form) (t : Tables) →
    ComesByTest names (top origin) (opened s) d (stands (record { form = f; tables = t })) →
    nat_le (nodes_of (with_main origin f t)) most_nodes ≡ true → nat_le (cells_of (with_main origin f t)) most_cells ≡ true →
    FormTaken names origin Run s d after (with_main origin f t)
taken names origin s d after f t found small few = record {
  form = d;
  is_form = runs d after;
  taken = record {
    given = record { form = f; found = t; comes = form_comes names (top origin) (opened s) d _ found; now = refl };
    small = leb-true (nodes_of (with_main origin f t)) most_nodes small;
    few = leb-true (cells_of (with_main origin f t)) most_cells few;
  };
}

pub is_refused : (names : List (List ℕ)) (origin : Origin) (s : Tables) (d : Item) (after : List ℕ) (p : Place) (r : Reason) →
    ComesByTest names (top origin) (opened s) d (ended (refused p r)) → FormRefused names origin Run s d after (record { place = p; reason = r })
is_refused names origin s d after p r found = record {
  form = d;
  is_form = runs d after;
  refused = inl (form_comes names (top origin) (opened s) d _ found);
}

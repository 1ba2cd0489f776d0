-- Which tables are sure and which ends count: where no macro stands all ends do, and behind any tables those that are exact.
use Rattle.std.proofs.Common.{◌≡◌, ◌∙◌, ℕ, List, [], ◌∷◌, refl, ap, sym, subst}
use Rattle.base.specs.declared.origin.Origin.{Origin}
use Rattle.base.specs.declared.origin.Origin.TheVariants.{Prelude, File}
use Rattle.base.specs.declared.reason.Reason.{Reason}
use Rattle.base.specs.Data.{Item}
use Rattle.base.specs.Names.{Extends-same}
use Rattle.lang_meaning.specs.Form.{Form}
use Rattle.base.specs.declared.place.Place.{Place}
use Rattle.front_profile.specs.declared.tables.MacroRow.{MacroRow}
use Rattle.front_profile.specs.declared.tables.Tables.{Tables}
use Rattle.front_profile.specs.Cuts.{opened}
use Rattle.front_profile.specs.Exact.{IsForWant, IsExact}
use Rattle.front_profile.specs.Judged.{Elaborates}
use Rattle.front_profile.specs.Nodes.{StaticContext, Standing, Verdict as Come, stands, ended, refused as refused_at}
use Rattle.front_profile.specs.Rows.{node}
use Rattle.front_profile.specs.Marks.{StandsFirst, TablesGrow}
use Rattle.front_reader.specs.Readers.{first_place}
use Rattle.front_scope.specs.Scopes.{top, with_main, IsElaborated}
use Rattle.front_files.specs.declared.mode.Mode.{Mode}
use Rattle.front_files.specs.Exact.{IsExactVerdict}
use Rattle.front_files.specs.Verdicts.{Judgement, Judges, at_end, form_taken, form_refused, text_stops, behind_next, FileVerdict, accepted, refused, Verdict, source_too_long, prelude_refused, file_refused, file_accepted}
use Rattle.front_files.specs.WithoutMacros.{TextLeaves, VerdictLeaves, WithoutMacros}
use Rattle.front_files.specs.bridge.Once.{ComeCounts, VerdictCounts}

abbrev pub AnyTables : Tables → Type 0
AnyTables s = Unit {0}

abbrev pub AnyEnd : Reason → Type 0
AnyEnd r = Unit {0}

abbrev pub IsExactReason : Reason → Type 0
IsExactReason r = IsForWant r → ⊥

pub any_counts : (v : FileVerdict) → VerdictCounts AnyEnd v
any_counts (accepted program) = tt
any_counts (refused r) = tt

pub exact_counts : (v : FileVerdict) → IsExactVerdict v → VerdictCounts IsExactReason v
exact_counts (accepted program) h = tt
exact_counts (refused r) h = h

pub counts_exact : (v : Come) → ComeCounts IsExactReason v → IsExact v
counts_exact (stands m) h = tt
counts_exact (ended (refused_at p r)) h = h

-- any tables are left

text_any : (names : List (List ℕ)) (origin : Origin) (mode : Mode) (s : Tables) (text : List ℕ) (p : Place) (j : Judgement) → (g : Judges names origin mode s text p j) →
    TextLeaves AnyTables names origin mode s text p j g
text_any names origin mode s text p j (at_end s1 x1 p1 g) = tt
text_any names origin mode s text p j (form_taken s1 x1 p1 d after t j1 r f rest) = text_any names origin mode t after (behind_next names x1 p1 d after r) j1 rest
text_any names origin mode s text p j (form_refused s1 x1 p1 d after x r f) = tt
text_any names origin mode s text p j (text_stops s1 x1 p1 x h) = tt

pub any_left : (names : List (List ℕ)) (prelude text : List ℕ) (mode : Mode) (v : FileVerdict) → (g : Verdict names prelude text mode v) → VerdictLeaves AnyTables names prelude text mode v g
any_left names prelude text mode v (source_too_long l) = tt
any_left names prelude text mode v (prelude_refused r l b) = text_any names _ _ b.first prelude (first_place Prelude) _ b.judges
any_left names prelude text mode v (file_refused t r l b h) = text_any names File mode t text (first_place File) _ h
any_left names prelude text mode v (file_accepted t u l b h) = tt

-- a form takes no macro away, so where there is none behind it there is none in front of it

none_in_front : (ms : List MacroRow) → StandsFirst ms [] → ms ≡ []
none_in_front [] h = refl
none_in_front (m ∷ ms) h = absurd (cc h)

main_keeps : (origin : Origin) (f : Form) (t : Tables) → (with_main origin f t).macros ≡ t.macros
main_keeps Prelude f t = refl
main_keeps File f t = refl

-- what is known of forms: what was there stays
abbrev pub FormsGrow : Type 0
FormsGrow =
    (names : List (List ℕ)) (a : StaticContext) (s : Tables) (d : Item) (m : Standing) → Elaborates names (node names a s d) (stands m) → TablesGrow s m.tables

pub before_without : FormsGrow → (names : List (List ℕ)) (origin : Origin) (s : Tables) (d : Item) (t : Tables) → WithoutMacros t
    → IsElaborated names origin (opened s) d t → WithoutMacros s
before_without law names origin s d t none g =
    let found : g.found.macros ≡ [] = sym (main_keeps origin g.form g.found) ∙ ap (λ (u : Tables). u.macros) (sym g.now) ∙ none in
    let grows : TablesGrow (opened s) g.found =
    law names (top origin) (opened s) d (record { form = g.form; tables = g.found }) (g.comes.under names (Extends-same names)) in
    none_in_front s.macros (subst (λ ms. StandsFirst s.macros ms) found grows.macros)

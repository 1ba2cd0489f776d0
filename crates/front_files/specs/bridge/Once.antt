-- Under one table of names, a file has at most one verdict whose end counts, where that is so of each form behind tables of a sort, and one of the
-- verdicts leaves such tables: the tables in front of each form that is taken are of the sort where those behind it are.
use Rattle.std.specs.Prelude.{◌≡◌, ℕ, ◌<◌, ◌≤◌, List, [], refl}
use Rattle.std.proofs.Common.{ap, sym, subst, ◌∙◌, arith, ⊎_elim}
use Rattle.base.specs.declared.origin.Origin.{Origin}
use Rattle.base.specs.declared.origin.Origin.TheVariants.{File}
use Rattle.base.specs.declared.place.Place.{Place}
use Rattle.base.specs.declared.reason.Reason.{Reason}
use Rattle.base.specs.declared.reason.Refusal.{Refusal}
use Rattle.base.specs.declared.reason.Stop.TheVariants.{Refused}
use Rattle.base.specs.Names.{IsTable, Extends-same}
use Rattle.base.specs.Data.{Item, place_of}
use Rattle.lang_meaning.specs.declared.program.ProgramRows.{ProgramRows}
use Rattle.front_profile.specs.declared.tables.Tables.{Tables}
use Rattle.front_profile.specs.Nodes.{StaticContext, Standing, Verdict as Come, stands, ended, refused as refused_at}
use Rattle.front_profile.specs.Rows.{node}
use Rattle.front_profile.specs.Cuts.{opened}
use Rattle.front_profile.specs.Judged.{Elaborates}
use Rattle.front_profile.specs.Promises.{FormComes}
use Rattle.front_reader.specs.Characters.{place_behind}
use Rattle.front_reader.specs.Gaps.{Gap}
use Rattle.front_reader.specs.Reads.{ReadsNext}
use Rattle.front_reader.specs.Readers.{first_place}
use Rattle.front_reader.specs.Stops.{Stops, StopsFirst}
use Rattle.front_scope.specs.Scopes.{top, with_main, rows_of, nodes_of, most_nodes, cells_of, most_cells, IsElaborated, IsTaken, IsTooLarge, HasManyCells, IsRefusedWhole, IsFormStopped}
use Rattle.front_files.specs.declared.mode.Mode.{Mode}
use Rattle.front_files.specs.declared.mode.Mode.TheVariants.{Run}
use Rattle.front_files.specs.Shown.{printing_at, IsPrinting, IsForm, runs, not_last, last_stays, last_shown}
use Rattle.front_files.specs.Verdicts.{JudgesText, IsOfFile, its_length, in_it, FormTaken, FormRefused, Judgement, all_taken, one_refused, behind_next, Judges, at_end, form_taken, form_refused, text_stops, FileVerdict, accepted, refused, BehindPrelude, Verdict, source_too_long, prelude_refused, file_refused, file_accepted}
use Rattle.front_files.specs.WithoutMacros.{TextLeaves, PreludeLeaves, VerdictLeaves}
use Rattle.front_files.specs.bridge.First.{one_first, same_name}
use Rattle.front_files.specs.bridge.Leaving.{StandBefore, front_such, text_leaves}

-- which ends count of what a form comes to, a text and a file

abbrev pub ComeCounts : (Reason → Type 0) → Come → Type 0
ComeCounts Counts (stands m) = Unit {0}
ComeCounts Counts (ended (refused_at p r)) = Counts r

abbrev pub JudgementCounts : (Reason → Type 0) → Judgement → Type 0
JudgementCounts Counts (all_taken t) = Unit {0}
JudgementCounts Counts (one_refused r) = Counts r.reason

abbrev pub VerdictCounts : (Reason → Type 0) → FileVerdict → Type 0
VerdictCounts Counts (accepted program) = Unit {0}
VerdictCounts Counts (refused r) = Counts r.reason

-- what is known of texts, and of forms behind tables of that sort
pub record Once (names : List (List ℕ)) (Sure : Tables → Type 0) (Counts : Reason → Type 0) : Type 0 where
  pub table : IsTable names
  pub before : StandBefore Sure names
  pub form : (a : StaticContext) (s : Tables) (d : Item) (v w : Come) → Sure s → ComeCounts Counts v → ComeCounts Counts w
      → Elaborates names (node names a (opened s) d) v → Elaborates names (node names a (opened s) d) w → v ≡ w
  pub next : (text : List ℕ) (p : Place) (d e : Item) (after left : List ℕ) (x : ReadsNext names text p d after) (y : ReadsNext names text p e left) →
      (d ≡ e) × (after ≡ left) × (place_behind (place_behind p x.gap) x.bytes ≡ place_behind (place_behind p y.gap) y.bytes)
  pub stop : (p : Place) (text : List ℕ) (a b : Place) (q r : Reason) → Stops p text a q → Stops p text b r → (a ≡ b) × (q ≡ r)
  pub next_or_stop : (text : List ℕ) (p : Place) (d : Item) (after : List ℕ) (at : Place) (r : Reason) →
      ReadsNext names text p d after → StopsFirst p text at r → ⊥
  pub end_or_next : (text : List ℕ) (p : Place) (d : Item) (after : List ℕ) → Gap text [] → ReadsNext names text p d after → ⊥
  pub end_or_stop : (text : List ℕ) (p : Place) (at : Place) (r : Reason) → Gap text [] → StopsFirst p text at r → ⊥

-- ---- the form that is judged

same_printing : (names : List (List ℕ)) (d e f : Item) → IsTable names → IsPrinting names d e → IsPrinting names d f → e ≡ f
same_printing names d e f table a b =
    a.is
    ∙ ap (λ n. printing_at (place_of d) n a.standard_output d) (same_name names a.format b.format _ table a.is_format b.is_format)
    ∙ ap (λ n. printing_at (place_of d) b.format n d) (same_name names a.standard_output b.standard_output _ table a.is_standard_output b.is_standard_output)
    ∙ sym b.is

same_form : (names : List (List ℕ)) (mode : Mode) (d : Item) (after : List ℕ) (e f : Item) → IsTable names → IsForm names mode d after e →
    IsForm names mode d after f → e ≡ f
same_form names mode d after e f table (runs a b) (runs a2 b2) = refl
same_form names mode d after e f table (not_last a b n) (not_last a2 b2 n2) = refl
same_form names mode d after e f table (not_last a b n) (last_stays a2 b2 s2) = refl
same_form names mode d after e f table (not_last a b n) (last_shown a2 b2 c2 g2 s2 p2) = absurd (n g2)
same_form names mode d after e f table (last_stays a b s) (not_last a2 b2 n2) = refl
same_form names mode d after e f table (last_stays a b s) (last_stays a2 b2 s2) = refl
same_form names mode d after e f table (last_stays a b s) (last_shown a2 b2 c2 g2 s2 p2) = absurd (cc)
same_form names mode d after e f table (last_shown a b c g s p) (not_last a2 b2 n2) = absurd (n2 g)
same_form names mode d after e f table (last_shown a b c g s p) (last_stays a2 b2 s2) = absurd (cc)
same_form names mode d after e f table (last_shown a b c g s p) (last_shown a2 b2 c2 g2 s2 p2) = same_printing names a c c2 table p p2

-- ---- what it comes to

-- under the table itself
now : (names : List (List ℕ)) (a : StaticContext) (s : Tables) (d : Item) (v : Come) → FormComes names a s d v → Elaborates names (node names a s d) v
now names a s d v c = c.under names (Extends-same names)

same_standing : (m k : Standing) → stands m ≡ stands k → m ≡ k
same_standing m k e = cc

module _ (Sure : Tables → Type 0) (Counts : Reason → Type 0) where
  same_given : (names : List (List ℕ)) (origin : Origin) (s : Tables) (d : Item) (t u : Tables) → Once names Sure Counts → Sure s → IsElaborated names origin (opened s) d t → IsElaborated names origin (opened s) d u → t ≡ u
  same_given names origin s d t u once sure g h =
      let same : stands (record { form = g.form; tables = g.found }) ≡ stands (record { form = h.form; tables = h.found }) =
      once.form (top origin) s d _ _ sure tt tt (now names _ (opened s) d _ g.comes) (now names _ (opened s) d _ h.comes) in
      let standing : Standing = record { form = g.form; tables = g.found } in
      let other : Standing = record { form = h.form; tables = h.found } in
      let one = same_standing standing other same in
      let form : g.form ≡ h.form = ap (λ (m : Standing). m.form) one in
      let found : g.found ≡ h.found = ap (λ (m : Standing). m.tables) one in
      g.now ∙ ap (λ f. with_main origin f g.found) form ∙ ap (λ x. with_main origin h.form x) found ∙ sym h.now

  given_or_ended : (names : List (List ℕ)) (origin : Origin) (s : Tables) (d : Item) (t : Tables) (r : Refusal) → Once names Sure Counts → Sure s → Counts r.reason → IsElaborated names origin (opened s) d t →
      FormComes names (top origin) (opened s) d (ended (refused_at r.place r.reason)) → ⊥
  given_or_ended names origin s d t r once sure x g c =
      let same : stands (record { form = g.form; tables = g.found }) ≡ ended (refused_at r.place r.reason) =
      once.form (top origin) s d _ _ sure tt x (now names _ (opened s) d _ g.comes) (now names _ (opened s) d _ c) in
      absurd (cc)

  small_or_large : (t u : Tables) → t ≡ u → nodes_of t ≤ most_nodes → most_nodes < nodes_of u → ⊥
  small_or_large t u e h k = let same : nodes_of t ≡ nodes_of u = ap nodes_of e in omega arith

  few_or_many : (t u : Tables) → t ≡ u → cells_of t ≤ most_cells → most_cells < cells_of u → ⊥
  few_or_many t u e h k = let same : cells_of t ≡ cells_of u = ap cells_of e in omega arith

  taken_or_whole : (names : List (List ℕ)) (origin : Origin) (s : Tables) (d : Item) (t : Tables) (r : Refusal) → Once names Sure Counts → Sure s → IsTaken names origin (opened s) d t →
      IsRefusedWhole names origin (opened s) d r → ⊥
  taken_or_whole names origin s d t r once sure g h =
      ⊎_elim
      (λ l. small_or_large t l.0.tables (same_given names origin s d t l.0.tables once sure g.given l.0.given) g.small l.0.large)
      (λ m. few_or_many t m.0.tables (same_given names origin s d t m.0.tables once sure g.given m.0.given) g.few m.0.many)
      h

  ended_or_whole : (names : List (List ℕ)) (origin : Origin) (s : Tables) (d : Item) (q r : Refusal) → Once names Sure Counts → Sure s → Counts q.reason →
      FormComes names (top origin) (opened s) d (ended (refused_at q.place q.reason)) → IsRefusedWhole names origin (opened s) d r → ⊥
  ended_or_whole names origin s d q r once sure x c h =
      ⊎_elim
      (λ l. given_or_ended names origin s d l.0.tables q once sure x l.0.given c)
      (λ m. given_or_ended names origin s d m.0.tables q once sure x m.0.given c)
      h

  large_or_many : (names : List (List ℕ)) (origin : Origin) (s : Tables) (d : Item) → Once names Sure Counts → Sure s → IsTooLarge names origin (opened s) d → HasManyCells names origin (opened s) d → ⊥
  large_or_many names origin s d once sure l m =
      small_or_large m.tables l.tables (same_given names origin s d m.tables l.tables once sure m.given l.given) m.small l.large

  same_whole : (names : List (List ℕ)) (origin : Origin) (s : Tables) (d : Item) (q r : Refusal) → Once names Sure Counts → Sure s → IsRefusedWhole names origin (opened s) d q →
      IsRefusedWhole names origin (opened s) d r → q ≡ r
  same_whole names origin s d q r once sure g h =
      ⊎_elim
      (λ l. ⊎_elim (λ k. l.1 ∙ sym k.1) (λ m. absurd (large_or_many names origin s d once sure l.0 m.0)) h)
      (λ m. ⊎_elim (λ l. absurd (large_or_many names origin s d once sure l.0 m.0)) (λ k. m.1 ∙ sym k.1) h)
      g

  taken_or_stopped : (names : List (List ℕ)) (origin : Origin) (s : Tables) (d : Item) (t : Tables) (r : Refusal) → Once names Sure Counts → Sure s → Counts r.reason → IsTaken names origin (opened s) d t →
      IsFormStopped names origin (opened s) d (Refused r) → ⊥
  taken_or_stopped names origin s d t r once sure x g h =
      ⊎_elim
      (λ c. given_or_ended names origin s d t r once sure x g.given c)
      (λ w. taken_or_whole names origin s d t r once sure g w)
      h

  same_refusal : (q r : Refusal) → q.place ≡ r.place → q.reason ≡ r.reason → q ≡ r
  same_refusal q r e f =
      let one : Place → Refusal = λ p. record { place = p; reason = q.reason } in
      let two : Reason → Refusal = λ x. record { place = r.place; reason = x } in
      ap one e ∙ ap two f

  same_ended : (names : List (List ℕ)) (a : StaticContext) (s : Tables) (d : Item) (q r : Refusal) → Once names Sure Counts → Sure s → Counts q.reason → Counts r.reason → FormComes names a (opened s) d (ended (refused_at q.place q.reason)) →
      FormComes names a (opened s) d (ended (refused_at r.place r.reason)) → q ≡ r
  same_ended names a s d q r once sure x y b c =
      let same : ended (refused_at q.place q.reason) ≡ ended (refused_at r.place r.reason) =
      once.form a s d _ _ sure x y (now names a (opened s) d _ b) (now names a (opened s) d _ c) in
      same_refusal q r (cc) (cc)

  same_stopped : (names : List (List ℕ)) (origin : Origin) (s : Tables) (d : Item) (q r : Refusal) → Once names Sure Counts → Sure s → Counts q.reason → Counts r.reason → IsFormStopped names origin (opened s) d (Refused q) →
      IsFormStopped names origin (opened s) d (Refused r) → q ≡ r
  same_stopped names origin s d q r once sure x y g h =
      ⊎_elim
      (λ b. ⊎_elim
      (λ c. same_ended names (top origin) s d q r once sure x y b c)
      (λ w. absurd (ended_or_whole names origin s d q r once sure x b w))
      h)
      (λ w. ⊎_elim
      (λ c. absurd (ended_or_whole names origin s d r q once sure y c w))
      (λ v. same_whole names origin s d q r once sure w v)
      h)
      g

  -- ---- a datum of a text

  pub same_taken : (names : List (List ℕ)) (origin : Origin) (mode : Mode) (s : Tables) (d : Item) (after : List ℕ) (t u : Tables) → Once names Sure Counts → Sure s →
      FormTaken names origin mode s d after t → FormTaken names origin mode s d after u → t ≡ u
  same_taken names origin mode s d after t u once sure f g =
      let form : f.form ≡ g.form = same_form names mode d after f.form g.form once.table f.is_form g.is_form in
      let P : Item → Type 0 = λ x. IsTaken names origin (opened s) x t in
      same_given names origin s g.form t u once sure (subst P form f.taken).given g.taken.given

  form_taken_or_refused : (names : List (List ℕ)) (origin : Origin) (mode : Mode) (s : Tables) (d : Item) (after : List ℕ) (t : Tables) (r : Refusal) → Once names Sure Counts → Sure s → Counts r.reason →
      FormTaken names origin mode s d after t → FormRefused names origin mode s d after r → ⊥
  form_taken_or_refused names origin mode s d after t r once sure y f g =
      let form : f.form ≡ g.form = same_form names mode d after f.form g.form once.table f.is_form g.is_form in
      let P : Item → Type 0 = λ x. IsTaken names origin (opened s) x t in
      taken_or_stopped names origin s g.form t r once sure y (subst P form f.taken) g.refused

  same_form_refusal : (names : List (List ℕ)) (origin : Origin) (mode : Mode) (s : Tables) (d : Item) (after : List ℕ) (q r : Refusal) → Once names Sure Counts → Sure s → Counts q.reason → Counts r.reason →
      FormRefused names origin mode s d after q → FormRefused names origin mode s d after r → q ≡ r
  same_form_refusal names origin mode s d after q r once sure x y f g =
      let form : f.form ≡ g.form = same_form names mode d after f.form g.form once.table f.is_form g.is_form in
      let P : Item → Type 0 = λ x. IsFormStopped names origin (opened s) x (Refused q) in
      same_stopped names origin s g.form q r once sure x y (subst P form f.refused) g.refused

  -- the same of equal data
  taken_there : (names : List (List ℕ)) (origin : Origin) (mode : Mode) (s : Tables) (d e : Item) (after left : List ℕ) (t : Tables) → d ≡ e → after ≡ left →
      FormTaken names origin mode s e left t → FormTaken names origin mode s d after t
  taken_there names origin mode s d e after left t p q f =
      subst (λ x. FormTaken names origin mode s x after t) (sym p) (subst (λ x. FormTaken names origin mode s e x t) (sym q) f)

  refused_there : (names : List (List ℕ)) (origin : Origin) (mode : Mode) (s : Tables) (d e : Item) (after left : List ℕ) (r : Refusal) → d ≡ e → after ≡ left →
      FormRefused names origin mode s e left r → FormRefused names origin mode s d after r
  refused_there names origin mode s d e after left r p q f =
      subst (λ x. FormRefused names origin mode s x after r) (sym p) (subst (λ x. FormRefused names origin mode s e x r) (sym q) f)

  judges_there : (names : List (List ℕ)) (origin : Origin) (mode : Mode) (s t : Tables) (text more : List ℕ) (p q : Place) (j : Judgement) → s ≡ t → text ≡ more → p ≡ q →
      Judges names origin mode t more q j → Judges names origin mode s text p j
  judges_there names origin mode s t text more p q j a b c h =
      subst (λ x. Judges names origin mode x text p j) (sym a)
      (subst (λ x. Judges names origin mode t x p j) (sym b) (subst (λ x. Judges names origin mode t more x j) (sym c) h))

  -- ---- a text

  same_judgement : (names : List (List ℕ)) (origin : Origin) (mode : Mode) (s : Tables) (text : List ℕ) (p : Place) (j k : Judgement) → Once names Sure Counts → JudgementCounts Counts j →
      JudgementCounts Counts k →
      (g : Judges names origin mode s text p j) → Judges names origin mode s text p k → TextLeaves Sure names origin mode s text p j g → j ≡ k
  same_judgement names origin mode s text p j k once a b (at_end s1 x1 p1 g) (at_end s2 x2 p2 h) l = refl
  same_judgement names origin mode s text p j k once a b (at_end s1 x1 p1 g) (form_taken s2 x2 p2 d after t k2 r f rest) l = absurd (once.end_or_next x1 p1 d after g r)
  same_judgement names origin mode s text p j k once a b (at_end s1 x1 p1 g) (form_refused s2 x2 p2 d after x r f) l = absurd (once.end_or_next x1 p1 d after g r)
  same_judgement names origin mode s text p j k once a b (at_end s1 x1 p1 g) (text_stops s2 x2 p2 x h) l = absurd (once.end_or_stop x1 p1 x.place x.reason g h)
  same_judgement names origin mode s text p j k once a b (form_taken s1 x1 p1 d after t j1 r f rest) (at_end s2 x2 p2 g) l = absurd (once.end_or_next x1 p1 d after g r)
  same_judgement names origin mode s text p j k once a b (form_taken s1 x1 p1 d after t j1 r f rest) (form_taken s2 x2 p2 e left u k2 q g more) l =
      let same = once.next x1 p1 d e after left r q in
      let sure : Sure s1 = once.before origin s1 f.form t (front_such Sure names once.before origin mode t after (behind_next names x1 p1 d after r) j1 rest l) f.taken.given in
      let tables : t ≡ u = same_taken names origin mode s1 d after t u once sure f (taken_there names origin mode s1 d e after left u same.0 same.1 g) in
      same_judgement names origin mode t after (behind_next names x1 p1 d after r) j1 k2 once a b rest
      (judges_there names origin mode t u after left (behind_next names x1 p1 d after r) (behind_next names x1 p1 e left q) k2 tables same.1 same.2 more)
      l
  same_judgement names origin mode s text p j k once a b (form_taken s1 x1 p1 d after t j1 r f rest) (form_refused s2 x2 p2 e left x q g) l =
      let same = once.next x1 p1 d e after left r q in
      let sure : Sure s1 = once.before origin s1 f.form t (front_such Sure names once.before origin mode t after (behind_next names x1 p1 d after r) j1 rest l) f.taken.given in
      absurd (form_taken_or_refused names origin mode s1 d after t x once sure b f (refused_there names origin mode s1 d e after left x same.0 same.1 g))
  same_judgement names origin mode s text p j k once a b (form_taken s1 x1 p1 d after t j1 r f rest) (text_stops s2 x2 p2 x h) l =
      absurd (once.next_or_stop x1 p1 d after x.place x.reason r h)
  same_judgement names origin mode s text p j k once a b (form_refused s1 x1 p1 d after x r f) (at_end s2 x2 p2 g) l = absurd (once.end_or_next x1 p1 d after g r)
  same_judgement names origin mode s text p j k once a b (form_refused s1 x1 p1 d after x r f) (form_taken s2 x2 p2 e left u k2 q g more) l =
      let same = once.next x1 p1 d e after left r q in
      absurd (form_taken_or_refused names origin mode s1 d after u x once l a (taken_there names origin mode s1 d e after left u same.0 same.1 g) f)
  same_judgement names origin mode s text p j k once a b (form_refused s1 x1 p1 d after x r f) (form_refused s2 x2 p2 e left y q g) l =
      let same = once.next x1 p1 d e after left r q in
      ap one_refused (same_form_refusal names origin mode s1 d after x y once l a b f (refused_there names origin mode s1 d e after left y same.0 same.1 g))
  same_judgement names origin mode s text p j k once a b (form_refused s1 x1 p1 d after x r f) (text_stops s2 x2 p2 y h) l =
      absurd (once.next_or_stop x1 p1 d after y.place y.reason r h)
  same_judgement names origin mode s text p j k once a b (text_stops s1 x1 p1 x h) (at_end s2 x2 p2 g) l = absurd (once.end_or_stop x1 p1 x.place x.reason g h)
  same_judgement names origin mode s text p j k once a b (text_stops s1 x1 p1 x h) (form_taken s2 x2 p2 d after t k2 r f rest) l =
      absurd (once.next_or_stop x1 p1 d after x.place x.reason r h)
  same_judgement names origin mode s text p j k once a b (text_stops s1 x1 p1 x h) (form_refused s2 x2 p2 d after y r f) l =
      absurd (once.next_or_stop x1 p1 d after x.place x.reason r h)
  same_judgement names origin mode s text p j k once a b (text_stops s1 x1 p1 x h) (text_stops s2 x2 p2 y i) l =
      let same = once.stop p1 x1 x.place y.place x.reason y.reason h.stops i.stops in
      ap one_refused (same_refusal x y same.0 same.1)

  -- ---- a file

  same_prelude : (names : List (List ℕ)) (prelude : List ℕ) (j k : Judgement) → Once names Sure Counts → JudgementCounts Counts j → JudgementCounts Counts k → (a : BehindPrelude names prelude j) →
      BehindPrelude names prelude k → PreludeLeaves Sure names prelude j a → j ≡ k
  same_prelude names prelude j k once x y a b l =
      let first : a.first ≡ b.first = one_first names a.first b.first once.table a.is_first b.is_first in
      same_judgement names _ _ a.first prelude _ j k once x y a.judges
      (judges_there names _ _ a.first b.first prelude prelude _ _ k first refl refl b.judges) l

  -- in front of a prelude that gives such tables all are such
  prelude_leaves : (names : List (List ℕ)) (prelude : List ℕ) (t : Tables) (a : BehindPrelude names prelude (all_taken t)) → Sure t → PreludeLeaves Sure names prelude (all_taken t) a
  prelude_leaves names prelude t a l = text_leaves Sure names _ _ a.first prelude _ (all_taken t) a.judges l

  -- so in front of a file that leaves them
  file_leaves : (names : List (List ℕ)) (prelude text : List ℕ) (mode : Mode) (t : Tables) (j : Judgement) → Once names Sure Counts → (a : BehindPrelude names prelude (all_taken t)) →
      (g : JudgesText names File mode t text j) → TextLeaves Sure names File mode t text (first_place File) j g → PreludeLeaves Sure names prelude (all_taken t) a
  file_leaves names prelude text mode t j once a g l = prelude_leaves names prelude t a (front_such Sure names once.before File mode t text (first_place File) j g l)

  accepted_leaves : (names : List (List ℕ)) (text : List ℕ) (mode : Mode) (t u : Tables) (g : JudgesText names File mode t text (all_taken u)) → Sure u →
      TextLeaves Sure names File mode t text (first_place File) (all_taken u) g
  accepted_leaves names text mode t u g l = text_leaves Sure names File mode t text (first_place File) (all_taken u) g l

  same_tables : (t u : Tables) → all_taken t ≡ all_taken u → t ≡ u
  same_tables t u e = cc

  same_one_refused : (q r : Refusal) → one_refused q ≡ one_refused r → q ≡ r
  same_one_refused q r e = cc

  pub one_verdict : (names : List (List ℕ)) (prelude text : List ℕ) (mode : Mode) (v w : FileVerdict) → Once names Sure Counts → VerdictCounts Counts v → VerdictCounts Counts w →
      (g : Verdict names prelude text mode v) → Verdict names prelude text mode w → VerdictLeaves Sure names prelude text mode v g → v ≡ w
  one_verdict names prelude text mode v w once x y (source_too_long l) (source_too_long m) e = refl
  one_verdict names prelude text mode v w once x y (source_too_long l) (prelude_refused r m b) e = absurd (omega arith)
  one_verdict names prelude text mode v w once x y (source_too_long l) (file_refused t r m b h) e = absurd (omega arith)
  one_verdict names prelude text mode v w once x y (source_too_long l) (file_accepted t u m b h) e = absurd (omega arith)
  one_verdict names prelude text mode v w once x y (prelude_refused q l a) (source_too_long m) e = absurd (omega arith)
  one_verdict names prelude text mode v w once x y (prelude_refused q l a) (prelude_refused r m b) e =
      ap refused (same_one_refused q r (same_prelude names prelude _ _ once x y a b e))
  one_verdict names prelude text mode v w once x y (prelude_refused q l a) (file_refused t r m b h) e = absurd (cc (same_prelude names prelude _ _ once x tt a b e))
  one_verdict names prelude text mode v w once x y (prelude_refused q l a) (file_accepted t u m b h) e = absurd (cc (same_prelude names prelude _ _ once x tt a b e))
  one_verdict names prelude text mode v w once x y (file_refused s q l a g) (source_too_long m) e = absurd (omega arith)
  one_verdict names prelude text mode v w once x y (file_refused s q l a g) (prelude_refused r m b) e =
      absurd (cc (same_prelude names prelude _ _ once tt y a b (file_leaves names prelude text mode s _ once a g e)))
  one_verdict names prelude text mode v w once x y (file_refused s q l a g) (file_refused t r m b h) e =
      let tables : s ≡ t = same_tables s t (same_prelude names prelude _ _ once tt tt a b (file_leaves names prelude text mode s _ once a g e)) in
      ap refused (same_one_refused q r (same_judgement names _ mode s text _ _ _ once x y g (judges_there names _ mode s t text text _ _ _ tables refl refl h) e))
  one_verdict names prelude text mode v w once x y (file_refused s q l a g) (file_accepted t u m b h) e =
      let tables : s ≡ t = same_tables s t (same_prelude names prelude _ _ once tt tt a b (file_leaves names prelude text mode s _ once a g e)) in
      absurd (cc (same_judgement names _ mode s text _ _ _ once x tt g (judges_there names _ mode s t text text _ _ _ tables refl refl h) e))
  one_verdict names prelude text mode v w once x y (file_accepted s z l a g) (source_too_long m) e = absurd (omega arith)
  one_verdict names prelude text mode v w once x y (file_accepted s z l a g) (prelude_refused r m b) e =
      absurd (cc (same_prelude names prelude _ _ once tt y a b (file_leaves names prelude text mode s _ once a g (accepted_leaves names text mode s z g e))))
  one_verdict names prelude text mode v w once x y (file_accepted s z l a g) (file_refused t r m b h) e =
      let leaves = accepted_leaves names text mode s z g e in
      let tables : s ≡ t = same_tables s t (same_prelude names prelude _ _ once tt tt a b (file_leaves names prelude text mode s _ once a g leaves)) in
      absurd (cc (same_judgement names _ mode s text _ _ _ once tt y g (judges_there names _ mode s t text text _ _ _ tables refl refl h) leaves))
  one_verdict names prelude text mode v w once x y (file_accepted s z l a g) (file_accepted t u m b h) e =
      let leaves = accepted_leaves names text mode s z g e in
      let tables : s ≡ t = same_tables s t (same_prelude names prelude _ _ once tt tt a b (file_leaves names prelude text mode s _ once a g leaves)) in
      ap (λ k. accepted (rows_of k))
      (same_tables z u (same_judgement names _ mode s text _ _ _ once tt tt g (judges_there names _ mode s t text text _ _ _ tables refl refl h) leaves))

  -- a prelude that is taken once is taken in front of each file
  pub of_file : (names : List (List ℕ)) (prelude text : List ℕ) (mode : Mode) (v w : FileVerdict) (program : ProgramRows) (r : Refusal) → Once names Sure Counts → VerdictCounts Counts w →
      (g : Verdict names prelude [] Run v) → VerdictLeaves Sure names prelude [] Run v g → v ≡ accepted program → Verdict names prelude text mode w → w ≡ refused r → IsOfFile names text mode r
  of_file names prelude text mode v w program r once y (source_too_long l) k e b f = absurd (cc)
  of_file names prelude text mode v w program r once y (prelude_refused q l a) k e b f = absurd (cc)
  of_file names prelude text mode v w program r once y (file_refused s q l a g) k e b f = absurd (cc)
  of_file names prelude text mode v w program r once y (file_accepted s x l a g) k e (source_too_long m) f = its_length (cc)
  of_file names prelude text mode v w program r once y (file_accepted s x l a g) k e (prelude_refused q m b) f =
      absurd (cc (same_prelude names prelude _ _ once tt y a b (file_leaves names prelude [] Run s _ once a g (accepted_leaves names [] Run s x g k))))
  of_file names prelude text mode v w program r once y (file_accepted s x l a g) k e (file_refused t q m b h) f =
      let same : q ≡ r = cc in
      in_it t (subst (λ y. JudgesText names File mode t text (one_refused y)) same h)
  of_file names prelude text mode v w program r once y (file_accepted s x l a g) k e (file_accepted t u m b h) f = absurd (cc)

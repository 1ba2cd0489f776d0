-- From what a run of an image says to what a run of the program says.
use Rattle.std.proofs.Common.{◌≡◌, ℕ, ◌<◌, ◌≤◌, List, length, refl, sym, subst, ◌∙◌, ◌⊎◌, inl, inr, arith, ◌==◌, false}
use Rattle.std.proofs.lemmas.Bool.{ne_eqb}
use Rattle.std.specs.Prelude.{Option, Some, None, IfSome, slice_index}
use Rattle.base.specs.declared.place.Place.{Place}
use Rattle.rv_machine.specs.declared.image.Image.{Image}
use Rattle.rv_machine.specs.declared.ending.Ending.{Ending}
use Rattle.rv_machine.specs.declared.ending.Ending.TheVariants.{Halt, Unhandled, Full, Budget, Trap, ReadFault, WriteFault}
use Rattle.rv_machine.specs.declared.ending.TrapKind.{TrapKind}
use Rattle.rv_machine.specs.Run.{Ended, Feeds}
use Rattle.rv_machine.specs.State.{State}
use Rattle.mid_told.specs.StandsFor.{IsTold}
use Rattle.back_build.specs.WordsLeft.{AreWordsOf}
use Rattle.back_told.specs.Conditions.{TellsConditions, condition_register}
use Rattle.lang_meaning.specs.declared.program.ProgramRows.{ProgramRows}
use Rattle.lang_meaning.specs.declared.evaluation.EvaluationEnd.{EvaluationEnd}
use Rattle.lang_meaning.specs.declared.evaluation.EvaluationEnd.TheVariants as endings
use Rattle.lang_meaning.specs.Evaluates.{Tells}
use Rattle.lang_meaning.specs.Meaning.{Meant, meaning, place_of_site}
use Rattle.lang_meaning.specs.State.{no_place, unlimited}
use Rattle.top_exec.specs.declared.image_run.ImageEnd.{ImageEnd}
use Rattle.top_exec.specs.Runs.{Sent, the_run, SaysAll, EndsAs, ComesTo, ImageComes, LeavesState, FaultTells}
use Rattle.top_main.specs.Images.{AreBytes, Halts, Signals, HasNoRoom, IsImageOf}
use Rattle.top_main.specs.Answers.{EndTold, site_told, end_told}
use Rattle.top_main.specs.Theorem.{RunComes, ImageTells}
use Rattle.top_main.specs.ToldRuns.{IsToldOf}

-- the place of a site is that which is told of its number
told : (sites : List Place) (number : ℕ) (place : Place) → ((number ≡ 0) × (place ≡ no_place)) ⊎ ((1 ≤ number) × (place_of_site sites number ≡ place)) → place ≡ site_told sites number
told sites number place (inl h) = rw h.0 h.1
told sites number place (inr h) =
    let test : (number == 0) ≡ false = ne_eqb number 0 (λ f. omega (arith, f, h.0)) in
    rw test (sym h.1)

-- how a run ends by what the program means: it goes on, or as the program does, or for want of room
module _ (program : ProgramRows) (m : Meant) (x : Ended) where
  abbrev Ways : Type 0
  Ways = (x.ending ≡ Budget) ⊎ Halts m x ⊎ Signals program m x ⊎ HasNoRoom x

  -- so it halts as the program does
  halts : (word : ℕ) → Halt word ≡ x.ending → Ways → Halts m x
  halts word e (inl b) = let is : Halt word ≡ Budget = e ∙ b in absurd (cc)
  halts word e (inr (inl h)) = h
  halts word e (inr (inr (inl u))) = let is : Halt word ≡ Unhandled u.class = e ∙ u.ending in absurd (cc)
  halts word e (inr (inr (inr f))) = let is : Halt word ≡ Full f.asked f.left = e ∙ f.ending in absurd (cc)

  -- or with its condition
  signals : (class : ℕ) → Unhandled class ≡ x.ending → Ways → (u : Signals program m x) × (u.class ≡ class)
  signals class e (inl b) = let is : Unhandled class ≡ Budget = e ∙ b in absurd (cc)
  signals class e (inr (inl h)) = let is : Unhandled class ≡ Halt h.word = e ∙ h.ending in absurd (cc)
  signals class e (inr (inr (inl u))) = let is : Unhandled class ≡ Unhandled u.class = e ∙ u.ending in (u, cc)
  signals class e (inr (inr (inr f))) = let is : Unhandled class ≡ Full f.asked f.left = e ∙ f.ending in absurd (cc)

  -- and does not trap
  no_trap : (kind : TrapKind) (address : ℕ) → Trap kind address ≡ x.ending → Ways → ⊥
  no_trap kind address e (inl b) = let is : Trap kind address ≡ Budget = e ∙ b in absurd (cc)
  no_trap kind address e (inr (inl h)) = let is : Trap kind address ≡ Halt h.word = e ∙ h.ending in absurd (cc)
  no_trap kind address e (inr (inr (inl u))) = let is : Trap kind address ≡ Unhandled u.class = e ∙ u.ending in absurd (cc)
  no_trap kind address e (inr (inr (inr f))) = let is : Trap kind address ≡ Full f.asked f.left = e ∙ f.ending in absurd (cc)

-- an image that was built, and its run in an arena that has room for it
module _ (names : List (List ℕ)) (program : ProgramRows) (image : Image) (arena steps : ℕ) (is_image : IsImageOf names program image) (fits : length image.words ≤ arena) (most : arena ≤ 16777216) (below : steps < 4294967296) (left left' : Option (List ℕ)) (sent : Sent) where
  -- what an input that feeds the run tells of it
  abbrev Fed : ImageEnd → Type 0
  Fed e =
      (input : List ℕ) → Feeds left input (the_run image arena steps input)
      → EndsAs (the_run image arena steps input) e × SaysAll input (the_run image arena steps input).at left left' sent

  abbrev Of : (input : List ℕ) → Type 0
  Of input = Ways program (meaning names program input steps unlimited) (the_run image arena steps input)

  ways : (input : List ℕ) → AreBytes input → Of input
  ways input bytes = (is_image.does arena input fits most bytes).ends steps below

  came : (e : ImageEnd) (ending : Ending) → e.ending ≡ ending → ComesTo ending image arena steps left left' sent e
      → RunComes names program image arena steps left left' sent (end_told program.sites e.site ending)
  came e (Halt word) is h = λ input bytes feeds.
      let f = h input feeds in
      (halts program (meaning names program input steps unlimited) (the_run image arena steps input) word (sym is ∙ f.0.ending) (ways input bytes), f.1)
  came e (Unhandled class) is h = λ input bytes feeds.
      let x : Ended = the_run image arena steps input in
      let f = h input feeds in
      let u = signals program (meaning names program input steps unlimited) x class (sym is ∙ f.0.ending) (ways input bytes) in
      let site = told program.sites (slice_index x.at.state.registers 11) u.0.place u.0.site_is in
      ((u.0, (u.1, subst (λ (n : ℕ). u.0.place ≡ site_told program.sites n) (sym f.0.site) site)), f.1)
  came e (Full wanted room) is h = λ input bytes feeds.
      let f = h input feeds in
      (sym f.0.ending ∙ is, f.1)
  came e Budget is h = λ input bytes feeds.
      let f = h input feeds in
      (sym f.0.ending ∙ is, f.1)
  came e (Trap kind address) is h = λ input bytes feeds.
      let f = h input feeds in
      absurd (no_trap program (meaning names program input steps unlimited) (the_run image arena steps input) kind address (sym is ∙ f.0.ending) (ways input bytes))
  came e ReadFault is h = h
  came e WriteFault is h = h

  -- what is told of the condition by which it ended
  module _ (conditions : TellsConditions names program image) (e : ImageEnd) (state : State) where
    tells_so : (ending : Ending) → e.ending ≡ ending → ComesTo ending image arena steps left left' sent e → LeavesState ending image arena steps left state
        → (told : Option (List ℕ)) → IfSome told (IsToldOf names program.classes state)
        → EndTold (ImageTells names program (Some image) arena steps left) (end_told program.sites e.site ending) told
    tells_so (Halt word) is h stood told t = tt
    tells_so (Unhandled class) is h stood None t = tt
    tells_so (Unhandled class) is h stood (Some text) t = record {
      image = image;
      is_kept = refl;
      tells = λ input bytes feeds.
          let x : Ended = the_run image arena steps input in
          let same : state ≡ x.at.state = stood input feeds in
          let ends : x.ending ≡ Unhandled class = sym (h input feeds).0.ending ∙ is in
          conditions arena input fits most bytes steps below class ends t.words text (subst (λ (s : State). AreWordsOf s t.words) same t.are)
          (subst (λ (s : State). IsTold names program.classes t.words (slice_index s.registers condition_register) text) same t.is);
    }
    tells_so (Full wanted room) is h stood told t = tt
    tells_so Budget is h stood told t = tt
    tells_so (Trap kind address) is h stood told t = tt
    tells_so ReadFault is h stood told t = tt
    tells_so WriteFault is h stood told t = tt

    pub tells : (end : EvaluationEnd) → end ≡ end_told program.sites e.site e.ending → ImageComes image arena steps left left' sent e
        → LeavesState e.ending image arena steps left state → (told : Option (List ℕ)) → IfSome told (IsToldOf names program.classes state)
        → EndTold (ImageTells names program (Some image) arena steps left) end told
    tells end is h stood told t =
        subst (λ (x : EvaluationEnd). EndTold (ImageTells names program (Some image) arena steps left) x told) (sym is) (tells_so e.ending refl h stood told t)

  -- the end that is told of its run is the one that it came to
  pub comes : (end : EvaluationEnd) (e : ImageEnd) → end ≡ end_told program.sites e.site e.ending → ImageComes image arena steps left left' sent e → RunComes names program image arena steps left left' sent end
  comes end e is h = subst (RunComes names program image arena steps left left' sent) (sym is) (came e e.ending refl h)

-- a fault is told of one
pub faults : (sites : List Place) (end : EvaluationEnd) (e : ImageEnd) (SourceRises Rises : Type 0) → end ≡ end_told sites e.site e.ending → FaultTells e.ending SourceRises Rises → Tells end SourceRises Rises
faults sites end e SourceRises Rises is h = subst (λ x. Tells x SourceRises Rises) (sym is) (of e.ending h)
  where
    of : (ending : Ending) → FaultTells ending SourceRises Rises → Tells (end_told sites e.site ending) SourceRises Rises
    of (Halt word) h = tt
    of (Unhandled class) h = tt
    of (Full wanted room) h = tt
    of Budget h = tt
    of (Trap kind address) h = tt
    of ReadFault h = h
    of WriteFault h = h

-- where a value is told, so many instructions were executed
pub executes : (sites : List Place) (image : Image) (arena steps : ℕ) (left left' : Option (List ℕ)) (sent : Sent) (end : EvaluationEnd) (e : ImageEnd) → end ≡ end_told sites e.site e.ending
    → ImageComes image arena steps left left' sent e → end ≡ endings.Value → (input : List ℕ) → Feeds left input (the_run image arena steps input) → e.executed ≡ (the_run image arena steps input).at.executed
executes sites image arena steps left left' sent end e is h value input feeds = of e.ending h (sym is ∙ value)
  where
    of : (ending : Ending) → ComesTo ending image arena steps left left' sent e → end_told sites e.site ending ≡ endings.Value → e.executed ≡ (the_run image arena steps input).at.executed
    of (Halt word) h v = (h input feeds).0.executed
    of (Unhandled class) h v = (h input feeds).0.executed
    of (Full wanted room) h v = (h input feeds).0.executed
    of Budget h v = (h input feeds).0.executed
    of (Trap kind address) h v = (h input feeds).0.executed
    of ReadFault h v = absurd (cc)
    of WriteFault h v = absurd (cc)

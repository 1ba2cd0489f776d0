-- A run that has stopped and a meaning that has ended are the same end, since the meaning ends alike with more levels.
use Rattle.std.proofs.Common.{◌≡◌, ◌+◌, sym, subst, ◌∙◌, ◌⊎◌, inl, inr, arith}
use Rattle.lang_meaning.specs.Laws.{LawOfLevels}
use Rattle.lang_meaning.specs.declared.program.ProgramRows.{ProgramRows}
use Rattle.lang_meaning.specs.Meaning.{Meant, End, ended_value, ended_unhandled, ended_full, ended_more, meaning}
use Rattle.lang_meaning.specs.State.{unlimited}
use Rattle.rv_machine.specs.declared.ending.Ending.TheVariants.{Budget}
use Rattle.rv_machine.specs.Run.{Ended}
use Rattle.top_exec.specs.Runs.{the_run}
use Rattle.top_main.specs.Images.{Halts, Signals, HasNoRoom}
use Rattle.top_main.specs.Agree.{HasEnded, HasStopped, LawOfAgreement}

-- it ended then, so more levels do not change it
ended : (e : End) → HasEnded e → e ≡ ended_more → ⊥
ended (ended_value v) h is = cc
ended (ended_unhandled c place) h is = cc
ended (ended_full asked left) h is = h
ended ended_more h is = h

-- a run that has stopped goes not on, and has not ended for want of room
stops : (program : ProgramRows) (m : Meant) (x : Ended) → HasStopped x.ending → (x.ending ≡ Budget) ⊎ Halts m x ⊎ Signals program m x ⊎ HasNoRoom x → Halts m x ⊎ Signals program m x
stops program m x stopped (inl b) = absurd (subst HasStopped b stopped)
stops program m x stopped (inr (inl h)) = inl h
stops program m x stopped (inr (inr (inl u))) = inr u
stops program m x stopped (inr (inr (inr f))) = absurd (subst HasStopped f.ending stopped)

-- a meaning with which a run ended has ended
has_ended : (program : ProgramRows) (m : Meant) (x : Ended) → Halts m x ⊎ Signals program m x → m.end ≡ ended_more → ⊥
has_ended program m x (inl h) more = let no : ended_value h.result ≡ ended_more = sym h.end ∙ more in cc
has_ended program m x (inr u) more = let no : ended_unhandled u.condition u.place ≡ ended_more = sym u.end ∙ more in cc

pub agrees : LawOfLevels → LawOfAgreement
agrees levels_law names program image arena levels steps input is_image fits most below bytes ended_so stopped =
    let x : Ended = the_run image arena steps input in
    let here = stops program (meaning names program input steps unlimited) x stopped ((is_image.does arena input fits most bytes).ends steps below) in
    let more = levels + steps in
    let by_run = (levels_law names program input unlimited steps more (omega arith)).same (has_ended program (meaning names program input steps unlimited) x here) in
    let by_meaning = (levels_law names program input unlimited levels more (omega arith)).same (ended (meaning names program input levels unlimited).end ended_so) in
    let same : meaning names program input steps unlimited ≡ meaning names program input levels unlimited = sym by_run ∙ by_meaning in
    subst (λ (m : Meant). Halts m x ⊎ Signals program m x) same here

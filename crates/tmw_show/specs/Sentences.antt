-- The sentences that tell why a window is violated. Values that are among some have names.
use Rattle.tmw_show.specs.Shared.{Event, Reason, State, ValueSource, decimal, flat_map, line, list_any, name_text, value_text}
use Rattle.std.specs.Prelude.{Bool, List, None, Option, Some, [], codes, drop, false, if◌then◌else◌, length, min, nat_lt, take, true, ℕ, ◌++◌, ◌+◌, ◌∷◌}
use Rattle.tmw_events.specs.declared.ix.Ix.{Ix}
use Rattle.tmw_reason.specs.Origins.{origin_in}
use Rattle.tmw_reason.specs.ReasonSteps.{gives}
use Rattle.tmw_reason.specs.Reasons.{states_at}
use Rattle.tmw_reason.specs.declared.origin.Fate.{Fate}
use Rattle.tmw_reason.specs.declared.origin.Fate.TheVariants.{GivenUp, GivingUp, Unasked, Overwritten, Stays}
use Rattle.tmw_reason.specs.declared.reason_step.ReasonStep.TheVariants.{RealTime, From, TooLate, ReadFirst, ChangedFirst, Through}
use Rattle.tmw_reason.specs.declared.origin.Origin.{Origin}
use Rattle.tmw_reason.specs.declared.origin.ReadOrigin.{ReadOrigin}
use Rattle.tmw_reason.specs.declared.origin.ReadOrigin.TheVariants.{InState, ByCall}
use Rattle.tmw_reason.specs.declared.reason_case.Derivation.{Derivation}
use Rattle.tmw_reason.specs.declared.reason_case.ReasonCase.{ReasonCase}
use Rattle.tmw_reason.specs.declared.reason_step.Contradiction.{Contradiction}
use Rattle.tmw_reason.specs.declared.reason_step.Contradiction.TheVariants.{Cycle, NoSource, Unlike}
use Rattle.tmw_reason.specs.declared.reason_step.ReasonStep.{ReasonStep}
use Rattle.tmw_show.specs.declared.frame.Frame.{Frame}
use Rattle.tmw_show.specs.declared.frame.Frame.TheVariants.{Line, Clause}
use Rattle.tmw_show.specs.SentenceParts.{before_text, left_text, read_text, writer_text}
use Rattle.tmw_reason.specs.declared.reason_step.ReasonStep.TheVariants.{Overwritten}

-- who left a value that was read, if it did not stand there from the start
abbrev pub source_text : List ℕ → ValueSource → Option ℕ → List ℕ
source_text values s None = []
source_text values s (Some writer) =
    read_text values s
    ++ (codes ", which only " ++ (name_text writer ++ (codes "'s commit can have left: " ++ before_text writer s.reader)))

-- The reader stands before the rival, which leaves another value. That only the start can have left what was read is said only if it is not
-- assumed that the start did: another transaction may have left it then.
abbrev pub read_first_text : List ℕ → Bool → ValueSource → ℕ → ℕ → List ℕ
read_first_text values is_assumed s rival left = read_text values s ++ first_text s.writer is_assumed
  where
    where_text : List ℕ
    where_text = codes ", where " ++ (left_text values rival left ++ (codes ": " ++ before_text s.reader rival))

    first_text : Option ℕ → Bool → List ℕ
    first_text None false =
        codes ", which only the start can have left, and "
        ++ (left_text values rival left ++ (codes " there: " ++ before_text s.reader rival))
    first_text None true = where_text
    first_text (Some writer) assumed = where_text

-- The rival stands before the source's writer.
abbrev pub changed_first_text : List ℕ → ℕ → ℕ → ValueSource → List ℕ
changed_first_text values rival left s =
    left_text values rival left
    ++ (codes " in register "
    ++ (decimal s.register.number
    ++ (codes ", where "
    ++ (name_text s.reader
    ++ (codes " read " ++ (value_text values s.value ++ (codes ": " ++ (name_text rival ++ (codes " before " ++ writer_text s.writer)))))))))

-- The sentence of a step, if these steps are assumed. What follows through a third transaction is in the sentences of the others, and that a
-- value stood there from the start is in the sentence that tells who changed it.
abbrev pub step_text : List ℕ → List ReasonStep → ReasonStep → List ℕ
step_text values assumed (RealTime one other) =
    name_text one ++ (codes " ended before " ++ (name_text other ++ (codes " began: " ++ before_text one other)))
step_text values assumed (From s) = source_text values s s.writer
step_text values assumed (TooLate s) = read_text values s ++ (codes ", not from " ++ (writer_text s.writer ++ codes ", which comes after it"))
step_text values assumed (Overwritten s rival left) =
    read_text values s
    ++ (codes ", not from " ++ (writer_text s.writer ++ (codes ": " ++ (left_text values rival left ++ codes " there in between"))))
step_text values assumed (ReadFirst s rival left) = read_first_text values (list_any (gives s) assumed) s rival left
step_text values assumed (ChangedFirst rival left s) = changed_first_text values rival left s
step_text values assumed (Through one between other) = []

-- What is assumed: that a value comes from there.
abbrev pub assumption_text : List ℕ → ReasonStep → List ℕ
assumption_text values (From s) = codes "if " ++ (read_text values s ++ (codes " as " ++ (writer_text s.writer ++ codes " left it:")))
assumption_text values _ = []

-- The read of a value with no source.
abbrev pub sourceless : ℕ → Ix → ℕ → ValueSource
sourceless reader register value = record { reader = reader; register = register; value = value; writer = None }

-- The sentence of what the steps come to.
abbrev pub end_text : List ℕ → Contradiction → List ℕ
end_text values (Cycle place) = name_text place ++ codes " would come before itself"
end_text values (NoSource reader register value) =
    read_text values (sourceless reader register value) ++ codes ": the start does not have it, and no other transaction that may have committed left it"
end_text values (Unlike reader register expected read) =
    read_text values (sourceless reader register read) ++ (codes ", where its own earlier calls make it " ++ value_text values expected)

-- What became of what a transaction put there.
abbrev pub fate_text : Fate → List ℕ
fate_text GivenUp = codes ", and aborted"
fate_text GivingUp = codes ", and has asked to abort"
fate_text Unasked = codes ", and has not yet asked to commit"
fate_text Overwritten = codes ", then another value"
fate_text Stays = []

-- Where a value comes from in a window before which so many events stand.
abbrev pub origin_text : List ℕ → ℕ → ℕ → ℕ → Option Origin → List ℕ
origin_text values before register value None =
    codes "no earlier event of this window sets register " ++ (decimal register ++ (codes " to " ++ value_text values value))
origin_text values before register value (Some origin) =
    name_text origin.writer
    ++ (codes " set register "
    ++ (decimal register
    ++ (codes " to "
    ++ (value_text values value ++ (codes " at event " ++ (decimal (before + (origin.place + 1)) ++ fate_text origin.fate))))))

abbrev pub start_text : List ℕ → ℕ → ℕ → List ℕ
start_text values register value = codes "a state has " ++ (value_text values value ++ (codes " in register " ++ decimal register))

-- The sentence of where the value comes from of the read that no order explains, if there is one.
abbrev pub read_origin_text : List ℕ → ℕ → Option ReadOrigin → List ℕ
read_origin_text values before None = []
read_origin_text values before (Some (InState register value)) = start_text values register.number value
read_origin_text values before (Some (ByCall register value origin)) = origin_text values before register.number value origin

-- So it is of a derivation of a case: what it says of a state is so in one of the case's own states.
abbrev pub told_by : List ℕ → ℕ → List State → List Event → ReasonCase → Contradiction → List ℕ
told_by values before states window case end = read_origin_text values before (origin_in (states_at states case.states.items) window end)

-- A sentence with what stands around it, unless it is empty.
abbrev pub framed : Frame → List ℕ → List ℕ
framed frame [] = []
framed Line (code ∷ sentence) = line (codes "    why    " ++ code ∷ sentence)
framed Clause (code ∷ sentence) = (code ∷ sentence) ++ codes "; "

-- So it is told of a step that is assumed, and of one that is not, if these are assumed.
abbrev pub told_text : Bool → List ReasonStep → List ℕ → ReasonStep → List ℕ
told_text true assumed values step = assumption_text values step
told_text false assumed values step = step_text values assumed step

-- The sentences of steps, of which so many are assumed.
abbrev pub steps_from : Frame → List ℕ → ℕ → List ReasonStep → List ℕ
steps_from frame values first steps =
    flat_map (λ step. framed frame (told_text true (take first steps) values step)) (take first steps)
    ++ flat_map (λ step. framed frame (told_text false (take first steps) values step)) (drop first steps)

abbrev pub steps_text : Frame → List ℕ → ℕ → List ReasonStep → List ℕ
steps_text frame values assumed steps = steps_from frame values (min assumed (length steps)) steps

-- What the steps come to: where a value comes from that no order explains, if it has one, and that.
abbrev pub ending_text : Frame → List ℕ → ℕ → List State → List Event → ReasonCase → Contradiction → List ℕ
ending_text frame values before states window case end =
    framed frame (told_by values before states window case end) ++ framed frame (end_text values end)

abbrev pub derivation_text : Frame → List ℕ → ℕ → List State → List Event → ReasonCase → Derivation → List ℕ
derivation_text frame values before states window case d =
    steps_text frame values d.assumed d.steps.items ++ ending_text frame values before states window case d.end

-- For which states a case is said.
abbrev pub state_item : ℕ → List ℕ
state_item place = codes ", state line " ++ decimal (place + 1)

abbrev pub header_text : List ℕ → List ℕ
header_text places = codes "from" ++ (drop 1 (flat_map state_item places) ++ codes ":")

-- So it is for each derivation of a case, behind that where there are several cases.
abbrev pub derivations_text : Frame → List ℕ → ℕ → List State → List Event → ReasonCase → List ℕ
derivations_text frame values before states window case =
    flat_map (derivation_text frame values before states window case) case.derivations.items

abbrev pub case_text : Frame → List ℕ → ℕ → List State → List Event → Bool → ReasonCase → List ℕ
case_text frame values before states window false case = derivations_text frame values before states window case
case_text frame values before states window true case =
    framed frame (header_text case.states.items) ++ derivations_text frame values before states window case

-- The sentences of a reason why a window is violated before which so many events stand.
abbrev pub reason_text : Frame → List ℕ → ℕ → List State → List Event → Reason → List ℕ
reason_text frame values before states window reason =
    flat_map (case_text frame values before states window (nat_lt 1 (length reason.cases.items))) reason.cases.items

-- and where a reason is found
abbrev pub found_text : Frame → List ℕ → ℕ → List State → List Event → Option Reason → List ℕ
found_text frame values before states window None = []
found_text frame values before states window (Some reason) = reason_text frame values before states window reason

-- The headline, from the monitor's fit to the judged front.
use Rattle.tmw_pump.proofs.Shared.{Event, Front, GivesHeadline, Headline, IsLogOf, IsVerdict, KeepsFit, List, Malformed, Opacity, OpaqueSoFar, Rules, States, Transactions, Undecided, Verdict, Violated, WriterIs, append_assoc, arith, refl, rules, subst, sym, ◌++◌, ◌∙◌, ◌≡◌}
use Rattle.tmw_pump.proofs.Verdicts.{opaque-fine, fine-opaque, violation-first, first-violation, verdict-is}

-- A log that begins with what was judged and what is left begins with what was judged.
front_of : (log : List Event) (writers : List WriterIs) (judged left : List Event) → IsLogOf log writers (judged ++ left)
    → IsLogOf log writers judged
front_of log writers judged left is = grind (arith, append_assoc)

headline-verdict : (rules : Rules) (log : List Event) (writers : List WriterIs) (judged : List Event) (verdict : Verdict)
    → rules.criterion ≡ Opacity → IsLogOf log writers judged → IsVerdict rules judged verdict → Headline rules log writers judged verdict
headline-verdict rules log writers judged verdict opacity one_log exact = record {
  one_log = one_log;
  opaque = let is = verdict-is rules judged verdict OpaqueSoFar exact in
      (λ same. opaque-fine rules judged (is.0 same), λ fine. is.1 (fine-opaque rules judged opacity fine));
  violated = λ m. let is = verdict-is rules judged verdict (Violated m) exact in
      (λ same. violation-first rules judged m opacity (is.0 same), λ first. is.1 (first-violation rules judged m opacity first));
  wide = λ m. verdict-is rules judged verdict (Undecided m Transactions) exact;
  many = λ m. verdict-is rules judged verdict (Undecided m States) exact;
  malformed = λ m. verdict-is rules judged verdict (Malformed m) exact;
}

-- What keeps the monitor's fit gives the headline.
pub gives_headline : (old : Front) (taken : List Event) (new : Front) → KeepsFit old new → new.judged.items ≡ taken
    → GivesHeadline old taken new.judged.items new.monitor.verdict
gives_headline old taken new keeps all rules log writers fits one_log =
    let judged = keeps rules fits in
    headline-verdict rules log writers new.judged.items new.monitor.verdict (sym judged.criterion ∙ new.opacity)
    (subst (IsLogOf log writers) (sym all) one_log) judged.judged

-- What keeps the monitor's fit gives the headline of a log that goes on with what is left.
pub gives_rest : (old new : Front) (left : List Event) → KeepsFit old new → GivesHeadline old (new.judged.items ++ left) new.judged.items new.monitor.verdict
gives_rest old new left keeps by log writers fits one_log =
    gives_headline old new.judged.items new keeps refl by log writers fits (front_of log writers new.judged.items left one_log)

-- Reading on to the end: a taker was given the items of the lines read so far.
use Rattle.tmw_lines.proofs.Shared.{Err, FailsAtLine, FromSource, GivesAll, GivesItems, GivesUpTo, Grammar, HasBegunToRead, HasRead, IsReading, Lines, List, None, Ok, ReadsNext, ReadsToFault, Some, Taking, Tells, Tells-more, Tells-none, TextFault, [], append-nil, append_assoc, arith, length-append, sym, ℕ, ◌++◌, ◌+◌, ◌∙◌, ◌∷◌, ◌≡◌}
use Rattle.tmw_lines.proofs.LinesRead.{fails-holding}
use Rattle.tmw_lines.specs.declared.items.Reached.TheVariants.{End, Stop}

-- the items of all lines read since were taken
pub record HasGiven {F H E S T : Type 0} (grammar : Grammar F H E) (From : FromSource S) (taking : Taking T E) (old new : S) (lines lines_after : Lines F)
    (before after : T) : Type 0 where
  pub bytes : List ℕ
  pub items : List E
  pub told : Tells From old bytes new
  pub taken : taking.takes before items after
  pub read : (header : H) (given : List E) (earlier : List ℕ) → HasRead grammar lines header given earlier
      → HasRead grammar lines_after header (given ++ items) (earlier ++ bytes)

module _ {F H E S T : Type 0} {grammar : Grammar F H E} {From : FromSource S}
    {taking : Taking T E} {a : S} {lines : Lines F} {before : T} where
  pub HasGiven-none : taking.takes before [] before → HasGiven grammar From taking a a lines lines before before
  HasGiven-none none = record {
    bytes = [];
    items = [];
    told = Tells-none From a;
    taken = none;
    read = λ header given earlier r. rw (append-nil given, append-nil earlier) r;
  }

  module _ {b : S} {now : Lines F} {between : T} (h : HasGiven grammar From taking a b lines now before between) where
    -- no fault was answered yet, and not the end
    pub reads_on : HasBegunToRead grammar lines → IsReading now
    reads_on begun = (h.read begun.header begun.items begun.bytes begun.read).reading

    -- the lines held were read
    read-held : (next : Lines F) (items : List E) → ((header : H) (given : List E) (earlier : List ℕ)
        → HasRead grammar now header given earlier → HasRead grammar next header (given ++ items) earlier)
        → (header : H) (given : List E) (earlier : List ℕ) → HasRead grammar lines header given earlier
        → HasRead grammar next header (given ++ (h.items ++ items)) (earlier ++ h.bytes)
    read-held next items reads header given earlier r =
        rw (← append_assoc given h.items items) (reads header (given ++ h.items) (earlier ++ h.bytes) (h.read header given earlier r))

    pub HasGiven-held : (more : (x y z : T) (xs ys : List E) → taking.takes x xs y → taking.takes y ys z → taking.takes x (xs ++ ys) z)
        → (next : Lines F) (after : T) → GivesItems grammar taking now next between after
        → HasGiven grammar From taking a b lines next before after
    HasGiven-held more next after gives = record {
      bytes = h.bytes;
      items = h.items ++ gives.items;
      told = h.told;
      taken = more before between after h.items gives.items h.taken gives.taken;
      read = read-held next gives.items gives.read;
    }

    -- and the taker stopped at the last of them
    pub gives-held-up_to : (Ended : Type 0)
        (more : (x y z : T) (xs ys : List E) → taking.takes x xs y → taking.takes y ys z → taking.takes x (xs ++ ys) z) (next : Lines F) (after : T)
        → GivesUpTo grammar taking now next between after
        → GivesAll grammar From Ended taking a b lines next before after (Ok Stop)
    gives-held-up_to Ended more next after l = record {
      bytes = h.bytes;
      items = h.items ++ l.items;
      told = h.told;
      given = record {
        last = l.last;
        read = λ header given earlier r.
            rw (← append_assoc given h.items l.items, append_assoc (given ++ h.items) l.items (l.last ∷ []))
            (l.read header (given ++ h.items) (earlier ++ h.bytes) (h.read header given earlier r));
        taken = record {
          between = l.taken.between;
          takes = more before between l.taken.between h.items l.items h.taken l.taken.takes;
          stops = l.taken.stops;
        };
      };
    }

    -- one line more was read
    module _ {c : S} {next : Lines F} {item : E} (r : ReadsNext grammar From b c now next (Ok (Some item))) where
      read-one : (header : H) (given : List E) (earlier : List ℕ) → HasRead grammar lines header given earlier
          → HasRead grammar next header ((given ++ h.items) ++ item ∷ []) (earlier ++ (h.bytes ++ r.bytes))
      read-one header given earlier read =
          rw (← append_assoc earlier h.bytes r.bytes)
          (r.is header (given ++ h.items) (earlier ++ h.bytes) (h.read header given earlier read))

      -- it is counted
      pub count-next : HasBegunToRead grammar lines → next.count ≡ now.count + 1
      count-next begun =
          let was = (h.read begun.header begun.items begun.bytes begun.read).counted in
          let is = (read-one begun.header begun.items begun.bytes begun.read).counted in
          omega (arith, was, is, length-append (begun.items ++ h.items) (item ∷ []))

      -- and its item was taken
      pub HasGiven-push : (more : (x y z : T) (xs ys : List E) → taking.takes x xs y → taking.takes y ys z → taking.takes x (xs ++ ys) z)
          → (after : T) → taking.takes between (item ∷ []) after → HasGiven grammar From taking a c lines next before after
      HasGiven-push more after taken = record {
        bytes = h.bytes ++ r.bytes;
        items = h.items ++ item ∷ [];
        told = Tells-more From a b c h.bytes r.bytes h.told r.told;
        taken = more before between after h.items (item ∷ []) h.taken taken;
        read = λ header given earlier read. rw (← append_assoc given h.items (item ∷ [])) (read-one header given earlier read);
      }

      -- and the taker stopped at its item
      pub gives-up_to : (after : T) → taking.stops between item after
          → GivesAll grammar From (From.ended c) taking a c lines next before after (Ok Stop)
      gives-up_to after stops = record {
        bytes = h.bytes ++ r.bytes;
        items = h.items;
        told = Tells-more From a b c h.bytes r.bytes h.told r.told;
        given = record {
          last = item;
          read = read-one;
          taken = record { between = between; takes = h.taken; stops = stops };
        };
      }

    -- the end was read
    pub gives-end : {c : S} {next : Lines F} → ReadsNext grammar From b c now next (Ok None)
        → GivesAll grammar From (From.ended c) taking a c lines next before between (Ok End)
    gives-end {c = c} r = record {
      bytes = h.bytes ++ r.bytes;
      items = h.items;
      told = Tells-more From a b c h.bytes r.bytes h.told r.told;
      given = (
        λ header given earlier was.
            let read = h.read header given earlier was in
            let end = r.is.0 header (given ++ h.items) (earlier ++ h.bytes) read in
            record {
              ended = end.0;
              are_lines = read.are_lines;
              text = sym (append_assoc earlier h.bytes r.bytes) ∙ end.1;
            },
        h.taken,
      );
    }

    fault-behind : (Ended : Type 0) (next : Lines F) (bytes : List ℕ) (fault : TextFault)
        → FailsAtLine grammar Ended now next bytes fault → ReadsToFault grammar Ended lines next h.items (h.bytes ++ bytes) fault
    fault-behind Ended next bytes fault fails = λ header given earlier r.
        rw (← append_assoc earlier h.bytes bytes) (fails-holding grammar Ended now next bytes fault fails header
        (given ++ h.items) (earlier ++ h.bytes) (h.read header given earlier r))

    -- a fault was read
    pub gives-fault : {c : S} {next : Lines F} {fault : TextFault} → ReadsNext grammar From b c now next (Err fault)
        → GivesAll grammar From (From.ended c) taking a c lines next before between (Err fault)
    gives-fault {c = c} {next = next} {fault = fault} r = record {
      bytes = h.bytes ++ r.bytes;
      items = h.items;
      told = Tells-more From a b c h.bytes r.bytes h.told r.told;
      given = (fault-behind (From.ended c) next r.bytes fault r.is.0, h.taken);
    }

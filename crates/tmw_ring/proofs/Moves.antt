-- A step of one seat keeps the rule of a ring's table, and so does another arrangement of the parts.
use Rattle.tmw_ring.proofs.Shared.{Answered, Core, IsReal, Knows, Lies, List, NoneOf, Part, PartFits, Parts, RingSize, Runs, Shown, Some, Sound, State, [], actor_of, ap, at_set, core_step, get_elem?, gone-none, gone-others, inl, inr, keeps, key, new_core, own-others, refl, run_of, runs-append, set, set_else, some, some-injective, some-ne-none, stepped, subst, suc, sym, words_of, zero, ℕ, ℕ_discrete, ◌++◌, ◌∙◌, ◌∷◌, ◌≡◌, ◌≢◌, ◌≤◌}

-- Each new part is the same actor's, fits the new ring and knows this run.
abbrev pub Follows : Core → List Answered → Parts → Parts → Type 0
Follows next run old new = (place : ℕ) (part : Part) → get_elem? new place ≡ some part
    → (was : Part) × (get_elem? old place ≡ some was) × (key part ≡ key was) × PartFits next part × Knows run part

-- Each old part's actor has a new part in its place.
abbrev pub Remains : Parts → Parts → Type 0
Remains old new = (place : ℕ) (was : Part) → get_elem? old place ≡ some was
    → (part : Part) × (get_elem? new place ≡ some part) × (key part ≡ key was)

-- No actor whose part is among these is the part's.
abbrev pub IsAnothers : Parts → Part → Type 0
IsAnothers old part = (place : ℕ) (was : Part) → get_elem? old place ≡ some was → key part ≢ key was

-- The actor makes this step of the ring, so answered, which leads to the next state.
pub record Makes (actor : ℕ) (core : Core) (answered : Answered) (next : Core) : Type 0 where
  pub step : core_step answered.step core ≡ Some (answered.reply, next)
  pub whose : actor_of answered.step ≡ actor

-- The part of an actor that knows the whole run.
pub knows_all : (run : List Answered) (part : Part) → run_of part ≡ run → Knows run part
knows_all run part is = subst (λ (known : List Answered). Knows known part) is (gone-none (key part) (run_of part))

-- What was set stands there.
pub set_over : {A : Type 0} (items : List A) (place : ℕ) (was item : A) → get_elem? items place ≡ some was
    → get_elem? (set items place item) place ≡ some item
set_over [] place was item at = absurd (some-ne-none was (sym at))
set_over (first ∷ items) zero was item at = refl
set_over (first ∷ items) (suc place) was item at = set_over items place was item at

module _ {S : Type 0} where
  -- In a seat with these parts the part stands among them.
  pub lies_among : (state : State S Parts) (seat at place : ℕ) (view : Parts) (part : Part) → get_elem? state.views seat ≡ some view
      → at ≡ seat → Lies state at place part → get_elem? view place ≡ some part
  lies_among state seat at place view part seated is lies =
      let same : lies.view ≡ view =
      some-injective lies.view view (sym lies.seated ∙ ap (λ (n : ℕ). get_elem? state.views n) is ∙ seated) in
      subst (λ (v : Parts). get_elem? v place ≡ some part) same lies.placed

  -- A seat that steps from these parts to those keeps the rule, if all other actors' parts fit the new ring still.
  pub moves_each : (size : RingSize) (state : State S Parts) (shown : Shown size state) (seat word value : ℕ) (old new : Parts) (next : Core)
      (since : List Answered) → get_elem? state.views seat ≡ some old → next.size ≡ shown.core.size → Sound next → IsReal next
      → set state.words word value ≡ words_of next → Runs shown.core since next → Follows next (shown.run ++ since) old new
      → Remains old new → ((other : Part) → IsAnothers old other → PartFits shown.core other → PartFits next other)
      → ((other : Part) → IsAnothers old other → NoneOf (key other) since)
      → Shown size (stepped state word value seat [] new keeps)
  moves_each size state shown seat word value old new next since seated sized sound real words ran follows remains others none = record {
    core = next;
    sized = sized ∙ shown.sized;
    sound = sound;
    real = real;
    words = words;
    run = shown.run ++ since;
    ran = runs-append (new_core size) shown.core next shown.run since shown.ran ran;
    where_is = shown.where_is;
    present = present;
    each = each;
    knows = knows;
  }
    where
      -- Where an actor's part lay, it has a part still.
      remained : (at place : ℕ) (part : Part) → Lies state at place part → Dec (at ≡ seat)
          → (now : Part) × Lies (stepped state word value seat [] new keeps) at place now × (key now ≡ key part)
      remained at place part lies (yes is) =
          let (now, placed, same) = remains place part (lies_among state seat at place old part seated is lies) in (
            now,
            record {
              view = new;
              seated = ap (λ (n : ℕ). get_elem? (set state.views seat new) n) is ∙ set_over state.views seat old new seated;
              placed = placed;
            },
            same,
          )
      remained at place part lies (no apart) = (
        part,
        record { view = lies.view; seated = set_else state.views seat at new apart ∙ lies.seated; placed = lies.placed },
        refl,
      )

      present : (actor : ℕ) → actor ≤ size.writers
          → (part : Part)
          × Lies (stepped state word value seat [] new keeps) (shown.where_is actor).0 (shown.where_is actor).1 part
          × (key part ≡ actor)
      present actor among =
          let (part, lies, is) = shown.present actor among in
          let at = shown.where_is actor in
          let (now, lain, same) = remained at.0 at.1 part lies (ℕ_discrete at.0 seat) in (now, lain, same ∙ is)

      -- A part that lies in another seat is another actor's.
      anothers : (at place : ℕ) (part : Part) → at ≢ seat → Lies state at place part → IsAnothers old part
      anothers at place part there lies other was placed same =
          there (ap (λ (pair : ℕ × ℕ). pair.0)
          (sym (shown.each at place part lies).1 ∙ ap shown.where_is same
          ∙ (shown.each seat other was (record { view = old; seated = seated; placed = placed })).1))

      knows : (at place : ℕ) (part : Part) → Lies (stepped state word value seat [] new keeps) at place part → Knows (shown.run ++ since) part
      knows at place part lies =
          elim (at_set state.views seat at new lies.view lies.seated) [
            | inl here ↦
                let (was, placed, same, fits, known) =
                follows place part (subst (λ (view : Parts). get_elem? view place ≡ some part) (sym here.1) lies.placed) in known
            | inr there ↦
                let before : Lies state at place part = record { view = lies.view; seated = there.1; placed = lies.placed } in
                gone-others (key part) (run_of part) shown.run since (none part (anothers at place part there.0 before))
                (shown.knows at place part before)
          ]

      each : (at place : ℕ) (part : Part) → Lies (stepped state word value seat [] new keeps) at place part
          → PartFits next part × (shown.where_is (key part) ≡ (at, place))
      each at place part lies =
          elim (at_set state.views seat at new lies.view lies.seated) [
            | inl here ↦
                let (was, placed, same, fits, known) =
                follows place part (subst (λ (view : Parts). get_elem? view place ≡ some part) (sym here.1) lies.placed) in
                let before = shown.each seat place was (record { view = old; seated = seated; placed = placed }) in
                (fits, ap shown.where_is same ∙ before.1 ∙ ap (λ (n : ℕ). let pair : ℕ × ℕ = (n, place) in pair) (sym here.0))
            | inr there ↦
                let lain : Lies state at place part = record { view = lies.view; seated = there.1; placed = lies.placed } in
                let before = shown.each at place part lain in
                (others part (anothers at place part there.0 lain) before.0, before.1)
          ]

  -- A step by the actor of a seat that has one part keeps the rule.
  pub moves : (size : RingSize) (state : State S Parts) (shown : Shown size state) (seat word value : ℕ) (old new : Part) (next : Core)
      (answered : Answered) → get_elem? state.views seat ≡ some (old ∷ []) → next.size ≡ shown.core.size → Sound next → IsReal next
      → set state.words word value ≡ words_of next → Makes (key old) shown.core answered next → key new ≡ key old
      → run_of new ≡ shown.run ++ answered ∷ [] → PartFits next new
      → ((other : Part) → key other ≢ key old → PartFits shown.core other → PartFits next other)
      → Shown size (stepped state word value seat [] (new ∷ []) keeps)
  moves size state shown seat word value old new next answered seated sized sound real words makes same known fits others =
      moves_each size state shown seat word value (old ∷ []) (new ∷ []) next (answered ∷ []) seated sized sound real words
      (next, makes.step, refl) follows remains (λ other apart. others other (apart zero old refl))
      (λ other apart. own-others (key other) answered (λ is. apart zero old refl (sym is ∙ makes.whose)))
    where
      follows : Follows next (shown.run ++ answered ∷ []) (old ∷ []) (new ∷ [])
      follows zero part placed =
          let is = some-injective new part placed in (
            old,
            refl,
            ap key (sym is) ∙ same,
            subst (PartFits next) is fits,
            subst (Knows (shown.run ++ answered ∷ [])) is (knows_all (shown.run ++ answered ∷ []) new known),
          )
      follows (suc place) part placed = absurd (some-ne-none part (sym placed))

      remains : Remains (old ∷ []) (new ∷ [])
      remains zero was placed = (new, refl, same ∙ ap key (some-injective old was placed))
      remains (suc place) was placed = absurd (some-ne-none was (sym placed))

  -- Each part of these views lay in one of the state's, and `to` says where it lies now.
  abbrev pub Rearranged : State S Parts → List Parts → (ℕ × ℕ → ℕ × ℕ) → Type 0
  Rearranged state views to = (seat place : ℕ) (view : Parts) (part : Part) → get_elem? views seat ≡ some view → get_elem? view place ≡ some part
      → (from : ℕ × ℕ) × Lies state from.0 from.1 part × (to from ≡ (seat, place))

  -- Each part of the state lies among these views, where `to` says.
  abbrev pub Stays : State S Parts → List Parts → (ℕ × ℕ → ℕ × ℕ) → Type 0
  Stays state views to = (from : ℕ × ℕ) (part : Part) → Lies state from.0 from.1 part
      → Lies (record state { views = views }) (to from).0 (to from).1 part

  -- Parts that only change their places keep the rule.
  pub rearrange : (size : RingSize) (state : State S Parts) (views : List Parts) (to : ℕ × ℕ → ℕ × ℕ) → Shown size state
      → Rearranged state views to → Stays state views to → Shown size (record state { views = views })
  rearrange size state views to shown lay stays = record {
    core = shown.core;
    sized = shown.sized;
    sound = shown.sound;
    real = shown.real;
    words = shown.words;
    run = shown.run;
    ran = shown.ran;
    where_is = λ actor. to (shown.where_is actor);
    present = λ actor among.
        let (part, lies, is) = shown.present actor among in (part, stays (shown.where_is actor) part lies, is);
    each = λ seat place part lies.
        let (from, lain, now) = lay seat place lies.view part lies.seated lies.placed in
        let before = shown.each from.0 from.1 part lain in
        (before.0, ap to before.1 ∙ now);
    knows = λ seat place part lies.
        let (from, lain, now) = lay seat place lies.view part lies.seated lies.placed in shown.knows from.0 from.1 part lain;
  }

-- Each part follows the one before it.
use Rattle.tmw_show.proofs.Shared.{List, ap, append_assoc, codes, members, reason_of, ℕ, ◌++◌, ◌+◌, ◌∙◌, ◌≡◌}
use Rattle.tmw_show.specs.Page.{about_json, mark_json, needed_json, told_of, why_json, window_json}
use Rattle.tmw_show.proofs.page.json.push_json.Goals as goal

joined : (t a b c d e f : List ℕ) → (((((t ++ a) ++ b) ++ c) ++ d) ++ e) ++ f ≡ t ++ (a ++ (b ++ (c ++ (d ++ (e ++ f)))))
joined t a b c d e f = simp append_assoc

six : (t a b c d e f : List ℕ) {u v w x y z : List ℕ} → u ≡ t ++ a → v ≡ u ++ b → w ≡ v ++ c → x ≡ w ++ d → y ≡ x ++ e → z ≡ y ++ f
    → z ≡ t ++ (a ++ (b ++ (c ++ (d ++ (e ++ f)))))
six t a b c d e f one two three four five last =
    last
    ∙ ap (λ s. s ++ f) (five ∙ ap (λ s. s ++ e) (four ∙ ap (λ s. s ++ d) (three ∙ ap (λ s. s ++ c) (two ∙ ap (λ s. s ++ b) one))))
    ∙ joined t a b c d e f

pub returns : goal.returns
returns c =
    let shown = c.args.shown.now in
    let events = shown.showing.events.items in
    let reason = reason_of shown.needed in
    let earlier = c.args.before + shown.showing.from in
    six c.args.text.now.items (about_json c.args.criterion earlier shown)
    (window_json shown.registers (members shown.showing.states) events) (mark_json (told_of c.args.criterion c.args.before shown))
    (needed_json shown.needed) (why_json earlier (members shown.showing.states) events reason) (codes "}\n")
    (rw (c.as_bytes.ensures.value, c.in_ok-about.ensures) at c.in_ok-extend_from_slice.ensures.items)
    (rw (c.states.ensures.members, c.deref.ensures.value) at c.in_ok-push_window.ensures) c.in_ok-push_mark.ensures
    c.in_ok-push_needed.ensures c.in_ok-push_why.ensures c.in_ok-extend_from_slice-2.ensures.items

use Rattle.tmw_show.proofs.form_text.shown_text.Goals as goal

pub returns-in-Page : goal.returns-in-Page
returns-in-Page c = rw c.in-Page.is c.page_text.ensures

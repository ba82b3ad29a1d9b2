-- From the checks of an entry's bytes to the reader's answer.
use Rattle.std.proofs.Common.{◌≡◌, ℕ, ◌+◌, List, get_or, Ok, sym, ap, ◌∙◌, ap₂}
use Rattle.tables.specs.Checks.{answered}
use Rattle.questions.specs.declared.form.Form.{Form}
use Rattle.questions.specs.declared.layout.Layout.{Layout}
use Rattle.questions.specs.declared.reader.Entry.{Entry}
use Rattle.questions.specs.Layouts.{variables_of, form_of, entry_length}
use Rattle.questions.specs.Entries.{reading_from, Accepted}

-- an entry by its three parts
abbrev pub entry_by : ℕ → Form → ℕ → Entry
entry_by n form next = record { variables = n; form = form; next = next }

-- the entry that the first byte says
abbrev pub entry_of : List ℕ → ℕ → Entry
entry_of bytes at =
    let n : ℕ = variables_of (get_or bytes 0 0) in
    let form : Form = form_of (get_or bytes 0 0) in
    entry_by n form (at + entry_length n form)

-- else the answer is what the layout says
pub answer_accepted : (bytes whole : List ℕ) (at room : ℕ) (layout : Layout) → bytes ≡ whole → Accepted bytes room layout
    → Ok (record { variables = layout.variables; form = layout.form; next = at + layout.length }) ≡ reading_from whole at room
answer_accepted bytes whole at room layout e h =
    let same : entry_by layout.variables layout.form (at + layout.length) ≡ entry_of bytes at =
    ap (λ l. entry_by layout.variables layout.form (at + l)) layout.length_is
    ∙ ap₂ (λ n form. entry_by n form (at + entry_length n form)) h.1 h.2 in
    ap Ok same ∙ sym (ap (λ r. answered r (entry_of bytes at)) h.0) ∙ ap (λ bs. reading_from bs at room) e

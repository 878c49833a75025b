use Rattle.book.proofs.Keeping.{called_taken}
use Rattle.book.proofs.Following.{ready}
use Rattle.book.proofs.call.Goals as goal

pub apply-requires : goal.apply-requires
apply-requires c = ready _ _ _ c.args.preview.now _ c.if-not-in_form.ensures _ c.read_record-r.ensures

pub returns : goal.returns
returns c =
    let taken = c.in-Some-Some-Some in
    called_taken c.read_record-r.result taken.ensures.cases.same taken.ensures'.cases.same taken.ensures''.cases.same (record { book = c.if-not-in_form.ensures; preview = c.if-preview-ne-MARKS.false }) c.read_record-r.ensures
    c.apply.ensures.value c.apply.ensures.marks c.apply.ensures.second c.apply.ensures.preview

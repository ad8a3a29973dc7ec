use Rattle.std.proofs.Common.{map, refl, ap, sym, ◌∙◌}
use Rattle.exec_log.specs.Entries.{read_of, kept_writes}
use Rattle.exec_log.proofs.Contents.{content_of, serial_content}
use Rattle.exec_log.proofs.log.ExecLog.content.Goals as goal

pub returns-clause-content : goal.returns-clause-content
returns-clause-content c = λ code p s.
    let how = c.in-Some.ending in
    content_of code p _ c.args.self.now how _ s c.self.view_is (sym c.ending.ensures ∙ c.in-Some.is)
    (c.in_ok-reads.ensures ∙ ap (map read_of) c.as_slice.ensures.value)
    (c.in_ok-writes.ensures ∙ c.kept.ensures ∙ ap (kept_writes how) c.as_slice-2.ensures.value)
    (c.in_ok-out.ensures ∙ c.as_slice-3.ensures.value) refl

pub returns-clause-serial : goal.returns-clause-serial
returns-clause-serial c = λ code p m s same.
    let how = c.in-Some.ending in
    serial_content p c.args.self.now m _ same
    (content_of code p _ c.args.self.now how _ s c.self.view_is (sym c.ending.ensures ∙ c.in-Some.is)
    (c.in_ok-reads.ensures ∙ ap (map read_of) c.as_slice.ensures.value)
    (c.in_ok-writes.ensures ∙ c.kept.ensures ∙ ap (kept_writes how) c.as_slice-2.ensures.value)
    (c.in_ok-out.ensures ∙ c.as_slice-3.ensures.value) refl)

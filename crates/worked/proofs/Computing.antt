-- What the examples compute with: to unfold one of these is to unfold all that its line names.
use Rattle.rows.specs.Written.{written, written_conds, written_concl, written_right, same_bytes, same_written}
use Rattle.rows.specs.Numbering.{place, has, add, number, number_conds, number_concl, number_right}
use Rattle.rows.specs.Form.{conds_of, row_of}
use Rattle.frames.specs.Bytes.{byte_at, upto, principal, pack, tag, header}
use Rattle.grants.specs.Grants.{read_property, read_packed, read_issue, read_concl, read_conds, read_with, read_grant}
use Rattle.canon.specs.Canon.{order, cond_bytes, order_cond, canon, insert as put}
use Rattle.frames.specs.Frames.{kind_with, read_mark, frame, extent}
use Rattle.reader.specs.Contents.{read_entry, read_licence, read_query, read_content}
use Rattle.reader.specs.Records.{read_whole, read_record, read_canonical}
use Rattle.exact.specs.Writing.{in_frame, written_record}
use Rattle.rules.specs.Rules.{res_under, concl_under, granted, condition}
use Rattle.rules.specs.Standing.{needs_of, fired, at, at_xy, at_x, of_row}
use Rattle.machine.specs.Machine.{member, insert, delete, act, step, feed}
use Rattle.book.specs.Chains.{runs}
use Rattle.worked.specs.Worked.{p1, p2, p3, p4, p5, p6, p6_added, p7, p8, p9, p9_withdrawn, p10, turned, table}
use Rattle.worked.specs.Worked.{chain, chain_firm, chain_withdrawn, chain_firm_withdrawn, two_paths, two_paths_firm, two_paths_first, two_paths_second, two_paths_none, another_path, waiting_circle, entered_twice}
use Rattle.worked.specs.Worked.{leaving, leaving_previewed, leaving_withdrawn, chain_previewed}

-- the table
unfoldable pub listed : Unit {0}
unfolding p1 p2 p3 p4 p5 p6 p6_added p7 p8 p9 p9_withdrawn p10 turned chain chain_firm chain_withdrawn chain_firm_withdrawn two_paths two_paths_firm two_paths_first two_paths_second two_paths_none another_path waiting_circle entered_twice leaving leaving_previewed leaving_withdrawn chain_previewed table
listed = tt

-- the plain machine, fed an example's records
unfoldable pub fed : Unit {0}
unfolding in_frame written_record byte_at upto principal pack tag header read_property read_packed read_issue read_concl read_conds read_with read_grant read_entry read_licence read_query read_content read_whole kind_with read_mark frame extent read_record order cond_bytes order_cond put canon read_canonical written written_conds written_concl written_right same_bytes same_written place has add number number_conds number_concl number_right member insert delete act step feed runs
fed = tt

-- the rows of its grants, and what they grant
unfoldable pub rowed : Unit {0}
unfolding conds_of row_of res_under concl_under granted
rowed = tt

-- the rules of these rows
unfoldable pub grounded : Unit {0}
unfolding condition needs_of fired at at_xy at_x of_row
grounded = tt

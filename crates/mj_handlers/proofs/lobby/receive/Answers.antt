use Rattle.mj_handlers.proofs.Receiving.{not_greeted, ended_first, failed_first, too_long_first}
use Rattle.mj_handlers.proofs.lobby.receive.Goals as goal

pub returns-in-Failed : goal.returns-in-Failed
returns-in-Failed g c =
    let part = rw c.as_slice.ensures.value at c.in-Failed.ensures.bytes in
    not_greeted _ _ _ _ c.in-Failed.ensures.reading c.in-Failed.ensures.held part c.in-Failed.ensures.faults

pub returns-in-Ended : goal.returns-in-Ended
returns-in-Ended g c =
    let hello = rw c.as_slice.ensures.value at c.in-Whole.ensures.bytes in
    let read = c.in-Ended.ensures in
    ended_first _ _ _ _ _ c.in-Whole.ensures.reading c.in-Whole.ensures.held hello c.in-Whole.ensures.faults read.writing read.bytes.0 read.faults

pub returns-in-Fault : goal.returns-in-Fault
returns-in-Fault g c =
    let hello = rw c.as_slice.ensures.value at c.in-Whole.ensures.bytes in
    let read = c.in-Fault.ensures in
    failed_first _ _ _ _ _ c.in-Whole.ensures.reading c.in-Whole.ensures.held hello c.in-Whole.ensures.faults read.writing _ _ read.bytes read.faults

pub returns-in-TooLong : goal.returns-in-TooLong
returns-in-TooLong g c =
    let hello = rw c.as_slice.ensures.value at c.in-Whole.ensures.bytes in
    let read = c.in-TooLong.ensures in
    too_long_first _ _ _ _ _ c.in-Whole.ensures.reading c.in-Whole.ensures.held hello c.in-Whole.ensures.faults read.writing _ _ read.bytes read.faults

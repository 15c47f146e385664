use Rattle.mj_connection.proofs.stage.Connection.hear.Goals as goal

pub returns-in-Asked-clause-takes : goal.returns-in-Asked-clause-takes
returns-in-Asked-clause-takes g c = rw c.in-Asked.is (record { fits = c.say.ensures.fits; hears = c.say.ensures.hears; tells = c.say.ensures.tells })

mod HeirLaws

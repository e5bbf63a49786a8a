mod OwnLineLaws
